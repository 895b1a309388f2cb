-- Lists of which a run of places is overwritten: what the internal functions that write say. Definitions only. Assumes nothing.
use Rattle.std.specs.Prelude.{List, ℕ, zero, suc, ◌+◌, set}

-- l with f 0, .., f (m - 1) stored at the places p 0, .., p (m - 1), one after the other
unfoldable pub puts : List ℕ → (ℕ → ℕ) → (ℕ → ℕ) → ℕ → List ℕ
puts l p f zero = l
puts l p f (suc m) = set (puts l p f m) (p m) (f m)

-- l with f 0, .., f (m - 1) from the place b on
abbrev pub over : List ℕ → ℕ → (ℕ → ℕ) → ℕ → List ℕ
over l b f m = puts l (λ j. b + j) f m
