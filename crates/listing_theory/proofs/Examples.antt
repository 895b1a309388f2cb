-- Numbers and lines, computed from the definitions. Assumes nothing.
use mathlib.Core.Path.{◌≡◌, refl}
use mathlib.Core.List.{[], ◌∷◌}
use Rattle.listing_theory.specs.Lines.{digits_up_to, decimal, pipes_line, refused_line, count_line}

-- 0
pub nought : decimal 0 ≡ 48 ∷ []
unfolding decimal digits_up_to
nought = refl

-- 4611686018427387904, the greatest count
pub greatest : decimal 4611686018427387904 ≡ 52 ∷ 54 ∷ 49 ∷ 49 ∷ 54 ∷ 56 ∷ 54 ∷ 48 ∷ 49 ∷ 56 ∷ 52 ∷ 50 ∷ 55 ∷ 51 ∷ 56 ∷ 55 ∷ 57 ∷ 48 ∷ 52 ∷ []
unfolding decimal digits_up_to
greatest = refl

-- `pipes 4`, `00 03 2`, and `record 2 refused 8`
pub pipes : pipes_line 4 ≡ 112 ∷ 105 ∷ 112 ∷ 101 ∷ 115 ∷ 32 ∷ 52 ∷ 10 ∷ []
unfolding decimal digits_up_to
pipes = refl

pub count : count_line 0 3 2 ≡ 48 ∷ 48 ∷ 32 ∷ 48 ∷ 51 ∷ 32 ∷ 50 ∷ 10 ∷ []
unfolding decimal digits_up_to
count = refl

pub refused : refused_line 2 8 ≡ 114 ∷ 101 ∷ 99 ∷ 111 ∷ 114 ∷ 100 ∷ 32 ∷ 50 ∷ 32 ∷ 114 ∷ 101 ∷ 102 ∷ 117 ∷ 115 ∷ 101 ∷ 100 ∷ 32 ∷ 56 ∷ 10 ∷ []
unfolding decimal digits_up_to
refused = refl
