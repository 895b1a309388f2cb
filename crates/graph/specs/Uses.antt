-- Paths that go along one of the edges that a test names. Definitions only. Assumes nothing.
use Rattle.std.specs.Prelude.{◌≡◌, ◌⊎◌, Bool, true, ◌&&◌, List, [], ◌∷◌, ℕ, eqb}

-- the test f names the edge from one entry of the list to the next
abbrev pub Uses : (ℕ → ℕ → Bool) → List ℕ → Type 0
Uses f [] = ⊥
Uses f (x ∷ []) = ⊥
Uses f (x ∷ y ∷ l) = (f x y ≡ true) ⊎ Uses f (y ∷ l)

-- the test that names the edge from u to v alone
abbrev pub one_edge : ℕ → ℕ → ℕ → ℕ → Bool
one_edge u v x y = eqb x u && eqb y v
