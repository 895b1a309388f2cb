-- The order of paths: by vertex number at the first place where they differ (document 01). Definitions only. Assumes nothing.
use Rattle.std.specs.Prelude.{◌≡◌, ◌⊎◌, List, [], ◌∷◌, ℕ, ◌<◌, length, get_or}

-- At the first place where they differ the one list has the lower number. A list that is the beginning of another is not before it.
abbrev pub Before : List ℕ → List ℕ → Type 0
Before [] m = ⊥
Before (x ∷ l) [] = ⊥
Before (x ∷ l) (y ∷ m) = (x < y) ⊎ ((x ≡ y) × Before l m)

-- The same by the place: at t both have a number, the one the lower, and they differ at no place before it. `before_first` says that
-- a list is before another exactly if there is such a place.
abbrev pub LowerAt : List ℕ → List ℕ → ℕ → Type 0
LowerAt l m t = (t < length l) × (t < length m) × ((r : ℕ) → r < t → get_or l r 0 ≡ get_or m r 0) × (get_or l t 0 < get_or m t 0)
