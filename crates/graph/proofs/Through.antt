-- The paths that use one edge of a graph without a cycle, and those that go without it: how many there are, by the path counts alone.
-- Assumes nothing.
use mathlib.Core.Path.{◌≡◌, refl, ap}
use mathlib.Core.Logic.{◌↔◌}
use mathlib.Core.Bool.{Bool, true, false, cond}
use mathlib.Core.List.{List}
use Prim.Native.Nat.{ℕ, ◌+◌, ◌*◌, ◌≤◌, ◌<◌}
use native.Mathlib.Nat.{zero-mul, mul-zero}
use native.Mathlib.Decide.{ℕ_discrete}
use native.Mathlib.Omega.{arith}
use borrow.Author.Tests.{eq-eqb, ne_eqb}
use Rattle.sums.specs.Sum.{delta}
use Rattle.sums.proofs.SumLaws.{delta_refl, delta_diff, sum_pick, sum_all_zero}
use Rattle.graph.specs.Graph.{Edge, IsPath, PathsWithExactly, Acyclic}
use Rattle.graph.specs.Count.{path_count}
use Rattle.graph.specs.Update.{inserted, from_sum, to_sum}
use Rattle.graph.specs.Uses.{Uses, one_edge}
use Rattle.graph.proofs.Walks.{cycle_cong}
use Rattle.graph.proofs.Recurrence.{path_count_cong}
use Rattle.graph.proofs.Counting.{path_iff_count, exact_path_count}
use Rattle.graph.proofs.Editing.{before, deletion}
use Rattle.graph.proofs.Using.{path_unnamed_iff, paths_using}

-- the graph without the edge from u to v
deleted : (ℕ → ℕ → ℕ) → ℕ → ℕ → ℕ → ℕ → ℕ
deleted w u v x y = cond (one_edge u v x y) 0 (w x y)

module _ (w : ℕ → ℕ → ℕ) (u v x y : ℕ) where
  deleted_gone : one_edge u v x y ≡ true → deleted w u v x y ≡ 0
  unfolding deleted
  deleted_gone q = ap (λ b. cond b 0 (w x y)) q

  deleted_kept : one_edge u v x y ≡ false → deleted w u v x y ≡ w x y
  unfolding deleted
  deleted_kept q = ap (λ b. cond b 0 (w x y)) q

-- the edge put in again, as an edge from u to its successor v
restored : (ℕ → ℕ → ℕ) → ℕ → ℕ → ℕ → ℕ → ℕ
restored w u v = inserted (deleted w u v) u (λ _. 0) (λ b. delta b v)

restored_same : (w : ℕ → ℕ → ℕ) (u v : ℕ) → w u v ≡ 1 → (x y : ℕ) → restored w u v x y ≡ w x y
unfolding restored inserted
restored_same w u v h x y =
    elim (ℕ_discrete x u) [
      | yes p ↦ elim (ℕ_discrete y v) [
        | yes q ↦ rw (p, q, deleted_gone w u v u v (rw (eq-eqb u u refl, eq-eqb v v refl)), delta_refl u, delta_refl v) (simp zero-mul (omega arith))
        | no q ↦ rw (deleted_kept w u v x y (rw (p, eq-eqb u u refl, ne_eqb y v q)), delta_diff y v q) (simp (zero-mul, mul-zero) (omega arith))
      ]
      | no p ↦ rw (deleted_kept w u v x y (rw (ne_eqb x u p)), delta_diff x u p) (simp zero-mul (omega arith))
    ]

module _ (n : ℕ) (w : ℕ → ℕ → ℕ) (acyclic : Acyclic n w) (one : (i j : ℕ) → i < n → j < n → w i j ≤ 1)
    (u v : ℕ) (hu : u < n) (hv : v < n) (edge : Edge n w u v) where
  same : (x y : ℕ) → x < n → y < n → restored w u v x y ≡ w x y
  same x y hx hy = restored_same w u v (omega (arith, one u v hu hv)) x y

  restored_count : (i j : ℕ) → i < n → path_count n (restored w u v) i j ≡ path_count n w i j
  restored_count = path_count_cong n (restored w u v) w same

  restored_acyclic : Acyclic n (restored w u v)
  restored_acyclic q = acyclic (cycle_cong n (restored w u v) w same q)

  deleted_acyclic : Acyclic n (deleted w u v)
  unfolding restored
  deleted_acyclic = before n (deleted w u v) u (λ _. 0) (λ b. delta b v) restored_acyclic

  deleted_le : (x y : ℕ) → x < n → y < n → deleted w u v x y ≤ 1
  unfolding deleted
  deleted_le x y hx hy = go (one_edge u v x y)
    where
      go : (b : Bool) → cond b 0 (w x y) ≤ 1
      go true = omega arith
      go false = one x y hx hy

  -- without the edge the count is less by the product: what `deletion` says of no predecessor and the one successor v
  deleted_count : (i j : ℕ) → i < n → j < n → path_count n (deleted w u v) i j + path_count n w i u * path_count n w v j ≡ path_count n w i j
  unfolding restored from_sum to_sum
  deleted_count i j hi hj =
      let C = path_count n (restored w u v) in
      let d = deletion n (deleted w u v) u (λ _. 0) (λ b. delta b v) deleted_acyclic hu restored_acyclic i j hi hj in
      let f : from_sum n C (λ _. 0) i ≡ 0 = sum_all_zero n _ (λ a p. zero-mul (C i a)) in
      let t : to_sum n C (λ b. delta b v) j ≡ C v j = sum_pick n v (λ b. C b j) hv in
      rw (← restored_count i u hi, ← restored_count v j hv, ← restored_count i j hi)
      (omega (arith, rw (f, t) at d, zero-mul (C u j), zero-mul (C v j)))

  module _ (i j : ℕ) (hi : i < n) (hj : j < n) where
    pub through_le : path_count n w i u * path_count n w v j ≤ path_count n w i j
    through_le = omega (arith, deleted_count i j hi hj)

    -- the paths that use the edge from u to v: one to its tail, the edge, one from its head
    pub paths_through : PathsWithExactly n w i j (Uses (one_edge u v)) (path_count n w i u * path_count n w v j)
    paths_through =
        let r = paths_using n (deleted w u v) w (one_edge u v) (λ x y hx hy. deleted_gone w u v x y) (λ x y hx hy. deleted_kept w u v x y) i j _ _
        (exact_path_count n (deleted w u v) deleted_acyclic deleted_le i j hi) (exact_path_count n w acyclic one i j hi) in
        let e : r.0 ≡ path_count n w i u * path_count n w v j = omega (arith, r.2, deleted_count i j hi hj) in
        rw e at r.1

    -- there is a path that goes without the edge exactly if those that use it are not all
    pub path_without_iff : ((l : List ℕ) × IsPath n w i j l × (¬ (Uses (one_edge u v) l))) ↔ (¬ (path_count n w i u * path_count n w v j ≡ path_count n w i j))
    path_without_iff =
        let some = path_iff_count n (deleted w u v) deleted_acyclic i j hi hj in
        let back = path_unnamed_iff n (deleted w u v) w (one_edge u v) (λ x y hx hy. deleted_gone w u v x y) (λ x y hx hy. deleted_kept w u v x y) i j in
        let e = deleted_count i j hi hj in (
          λ p q. omega (arith, some.0 (p.0, (back p.0).1 (p.1, p.2))),
          λ d.
              let p = some.1 (omega arith) in
              let r = (back p.0).0 p.1 in
              (p.0, r.0, r.1),
        )
