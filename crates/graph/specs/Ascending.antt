-- Ascending lists, by any order of their entries, and the order of edges. Definitions only. Assumes nothing.
use Rattle.std.specs.Prelude.{◌≡◌, ◌⊎◌, List, [], ◌∷◌, ℕ, ◌<◌}
use Rattle.graph.specs.Graph.{◌is_in◌}

-- each entry comes before all that stand after it, by the order R
abbrev pub Ascending : {A : Type 0} → (A → A → Type 0) → List A → Type 0
Ascending R [] = Unit {0}
Ascending {A} R (x ∷ l) = ((y : A) → y is_in l → R x y) × Ascending R l

-- the edge x, given as where it runs from and to, comes before the edge y: by from, then by to
abbrev pub EdgeLower : ℕ × ℕ → ℕ × ℕ → Type 0
EdgeLower x y = (x.0 < y.0) ⊎ ((x.0 ≡ y.0) × (x.1 < y.1))
