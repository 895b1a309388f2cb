-- How many edges a graph without a cycle has, if at most one runs between two vertices: no more than pairs of vertices.
-- Assumes nothing.
use mathlib.Core.Path.{◌≡◌, sym, ap, ap₂, ◌∙◌}
use Prim.Native.Nat.{ℕ, ◌+◌, ◌*◌, ◌≤◌, ◌<◌}
use native.Mathlib.Nat.{mul-one}
use native.Mathlib.Decide.{ℕ_discrete, dec_lt}
use native.Mathlib.Omega.{arith}
use Rattle.sums.specs.Sum.{sum, delta}
use Rattle.sums.proofs.SumLaws.{delta_refl, delta_diff, sum_cong, sum_add, sum_swap, sum_mono, sum_const, sum_pick'}
use Rattle.graph.specs.Graph.{Acyclic}
use Rattle.graph.proofs.Walks.{reach_refl, reach_step, cycle_of}

module _ (n : ℕ) (w : ℕ → ℕ → ℕ) (acyclic : Acyclic n w) (one : (i j : ℕ) → i < n → j < n → w i j ≤ 1) where
  -- no edge from a vertex to itself, and none there and back between two
  pair_le : (i j : ℕ) → i < n → j < n → w i j + w j i + delta i j ≤ 1
  pair_le i j hi hj =
      elim (ℕ_discrete i j) [
        | yes e ↦ elim (dec_lt 0 (w j j)) [
          | yes p ↦ absurd (acyclic (cycle_of n w j j hj hj p (reach_refl n w j)))
          | no p ↦ rw (e, delta_refl j) (omega arith)
        ]
        | no d ↦ elim (dec_lt 0 (w i j)) [
          | yes p ↦ elim (dec_lt 0 (w j i)) [
            | yes q ↦ absurd (acyclic (cycle_of n w i j hi hj p (reach_step n w hi q (reach_refl n w i))))
            | no q ↦ omega (arith, delta_diff i j d, one i j hi hj)
          ]
          | no p ↦ omega (arith, delta_diff i j d, one j i hj hi)
        ]
      ]

  row_delta : (i : ℕ) → i < n → sum n (λ j. delta i j) ≡ 1
  row_delta i hi = sum_cong n _ _ (λ j hj. sym (mul-one (delta i j))) ∙ sum_pick' n i (λ _. 1) hi

  row_le : (i : ℕ) → i < n → sum n (λ j. w i j + w j i + delta i j) ≤ n
  row_le i hi = omega (arith, sum_mono n (λ j. w i j + w j i + delta i j) (λ _. 1) (λ j hj. pair_le i j hi hj), sum_const n 1)

  -- each pair of different vertices has at most one of its two edges: twice the edges, and the n pairs of a vertex with itself
  pub edges_le : sum n (λ i. sum n (w i)) + sum n (λ i. sum n (w i)) + n ≤ n * n
  edges_le =
      let total : ℕ = sum n (λ i. sum n (λ j. w i j + w j i + delta i j)) in
      let split : total ≡ sum n (λ i. sum n (w i)) + sum n (λ i. sum n (w i)) + n
      = sum_cong n _ _ (λ i hi. sum_add n (λ j. w i j + w j i) (delta i) ∙ ap₂ (λ x y. x + y) (sum_add n (w i) (λ j. w j i)) (row_delta i hi))
      ∙ sum_add n (λ i. sum n (w i) + sum n (λ j. w j i)) (λ _. 1)
      ∙ ap₂ (λ x y. x + y) (sum_add n (λ i. sum n (w i)) (λ i. sum n (λ j. w j i))) (sum_const n 1 ∙ mul-one n)
      ∙ ap (λ (x : ℕ). sum n (λ i. sum n (w i)) + x + n) (sym (sum_swap n n w)) in
      let bounded : total ≤ sum n (λ _. n) = sum_mono n _ _ (λ i hi. row_le i hi) in
      omega (arith, split, bounded, sum_const n n)
