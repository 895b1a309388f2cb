-- The laws of a given path: that its entries are vertices, and so are those of what is left of it. Assumes nothing.
use Rattle.std.proofs.Common.{◌≡◌, inl, inr, ℕ, zero, suc, List, [], ◌∷◌, length, refl, ap, arith}
use native.Mathlib.Nat.{lt_of_not-le}
use Rattle.query_theory.specs.Rank.{SomeNoVertex}
use Rattle.query.specs.Internal.{Vertices}

-- where none is found, each byte is a vertex
pub vertices_of : (n : ℕ) (p : List ℕ) → ¬ (SomeNoVertex n p) → Vertices n p
vertices_of n [] d t h = absurd (omega arith)
vertices_of n (x ∷ p) d zero h = lt_of_not-le (λ l. d (x, inl refl, l))
vertices_of n (x ∷ p) d (suc t) h = vertices_of n p (λ q. d (q.0, inr q.1, q.2)) t (omega arith)

-- so is each that is left after the first
pub left_vertices : (n a : ℕ) (rest left : List ℕ) → rest ≡ a ∷ left → Vertices n rest → Vertices n left
left_vertices n a rest left e v k h = rw (e) at (v (suc k) (omega (arith, ap length e, h)))
