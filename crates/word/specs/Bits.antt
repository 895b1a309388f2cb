-- The places of the set bits of a word, one after the other. Definitions only. Assumes nothing.
use Rattle.std.specs.Prelude.{◌≡◌, ℕ, Option, Some, None}
use Rattle.word.specs.Bit.{Lowest, LowestCleared}
use Rattle.word.specs.declared.Bits.{Bits}

-- from a word the place of its lowest set bit comes, and the word with this bit cleared is left; nothing comes from 0, and 0 is left
abbrev pub GivesLowest : Bits → Option ℕ → Bits → Type 0
GivesLowest s None t = (s.rest ≡ 0) × (t.rest ≡ 0)
GivesLowest s (Some k) t = Lowest s.rest k × LowestCleared s.rest t.rest
