-- Small sheets, computed from the definitions, and document 01's orchard D. Assumes nothing.
use mathlib.Core.Path.{◌≡◌, refl}
use mathlib.Core.List.{[], ◌∷◌}
use Rattle.sums.specs.Sum.{sum, delta}
use Rattle.word.specs.Bit.{bit_count}
use Rattle.sheet_theory.specs.Layout.{size, set_bits, build, redone_word, redone, empty_sheet}
use Rattle.sheet_theory.specs.Lent.{Lent, lent}

-- the empty sheet of one vertex: no edge, and one path from the vertex to itself
pub one : empty_sheet 1 ≡ 0 ∷ 1 ∷ []
unfolding empty_sheet redone redone_word build delta size
one = refl

-- a stray bit counts
pub stray : set_bits 1 (6 ∷ 1 ∷ []) ≡ 2
unfolding set_bits sum bit_count
stray = refl

-- document 01's orchard D, with five vertices: 0 to 1 and 2, 1 to 3, 2 to 3
unfoldable pub D : Lent
D =
    lent (6 ∷ 8 ∷ 8 ∷ 0 ∷ 0
    ∷ 1 ∷ 1 ∷ 1 ∷ 2 ∷ 0
    ∷ 0 ∷ 1 ∷ 0 ∷ 1 ∷ 0
    ∷ 0 ∷ 0 ∷ 1 ∷ 1 ∷ 0
    ∷ 0 ∷ 0 ∷ 0 ∷ 1 ∷ 0
    ∷ 0 ∷ 0 ∷ 0 ∷ 0 ∷ 1
    ∷ [])
