-- Taking away, one after another, vertices without an edge into what is left: if no such vertex is left there is a cycle, and if none
-- is left at all there is no cycle. A walk of more than n vertices shows a cycle too. Assumes nothing.
use mathlib.Core.Path.{◌≡◌}
use Prim.Native.Nat.{ℕ, zero, suc, ◌+◌, ◌<◌}
use native.Mathlib.Omega.{arith}
use Rattle.graph.specs.Graph.{Edge, Cycle, Acyclic}
use Rattle.graph.specs.Order.{Stuck, Order}
use Rattle.graph.proofs.Deep.{Deep, deep, deep_acyclic, cycle?}

module _ (n : ℕ) (w : ℕ → ℕ → ℕ) where
  stuck_not_deep : (L : ℕ → Type 0) → Stuck n w L → (k i : ℕ) → i < n → L i → Deep n w k i → ⊥
  stuck_not_deep L s zero i h p d = d
  stuck_not_deep L s (suc k) i h p d = let r = s i h p in stuck_not_deep L s k r.0 r.1 r.3 (d r.0 r.1 r.2)

  -- were there no cycle, no walk would have more than n vertices; inside L a walk has as many as one likes
  pub stuck_cycle : (L : ℕ → Type 0) (i : ℕ) → i < n → L i → Stuck n w L → Cycle n w
  stuck_cycle L i h p s = elim (cycle? n w) [ yes c ↦ c | no a ↦ absurd (stuck_not_deep L s n i h p (deep n w a i h)) ]

  -- a walk from v m goes down the order, so it has at most m + 1 vertices
  order_deep : (k : ℕ) (v : ℕ → ℕ) → Order n w k v → (s m : ℕ) → m < s → m < k → Deep n w s (v m)
  order_deep k v o zero m hs hk = absurd (omega arith)
  order_deep k v o (suc s) m hs hk = λ b hb p. let r = o.earlier m hk b hb p in rw r.2 at (order_deep k v o s r.0 (omega (arith, r.1)) (omega (arith, r.1)))

  -- a graph all of whose vertices stand in such an order has no cycle
  pub order_acyclic : (k : ℕ) (v : ℕ → ℕ) → Order n w k v → ((i : ℕ) → i < n → (m : ℕ) × (m < k) × (v m ≡ i)) → Acyclic n w
  order_acyclic k v o h = deep_acyclic n w k (λ i hi. let r = h i hi in rw r.2 at (order_deep k v o k r.0 r.1 r.1))

-- ---- a walk of more than n vertices

module _ (n : ℕ) (w : ℕ → ℕ → ℕ) (v : ℕ → ℕ) (b : ℕ) (edges : (k : ℕ) → k + 1 < n → Edge n w (v k) (v (k + 1))) (vertex : (k : ℕ) → k < n → v k < n) (hb : b < n)
    (last : (k : ℕ) → n ≡ k + 1 → Edge n w (v k) b) where
  walk_not_deep : (m k : ℕ) → k + suc m ≡ n → Deep n w (suc m) (v k) → ⊥
  walk_not_deep zero k e d = d b hb (last k (omega arith))
  walk_not_deep (suc m) k e d = walk_not_deep m (k + 1) (omega arith) (d (v (k + 1)) (vertex (k + 1) (omega arith)) (edges k (omega arith)))

-- were there no cycle, no walk would have more than n vertices
pub walk_cycle : (n : ℕ) (w : ℕ → ℕ → ℕ) (v : ℕ → ℕ) (b : ℕ) → ((k : ℕ) → k + 1 < n → Edge n w (v k) (v (k + 1))) → ((k : ℕ) → k < n → v k < n) → b < n
    → ((k : ℕ) → n ≡ k + 1 → Edge n w (v k) b) → Cycle n w
walk_cycle zero w v b edges vertex hb last = absurd (omega arith)
walk_cycle (suc m) w v b edges vertex hb last =
    elim (cycle? (suc m) w) [
      | yes c ↦ c
      | no a ↦ absurd (walk_not_deep (suc m) w v b edges vertex hb last m 0 (omega arith) (deep (suc m) w a (v 0) (vertex 0 (omega arith))))
    ]
