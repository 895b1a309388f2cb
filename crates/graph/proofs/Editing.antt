-- The update on a graph without a cycle: when inserted edges close a cycle, and what the path counts are with them and without them.
-- Assumes nothing.
use mathlib.Core.Path.{◌≡◌, sym}
use mathlib.Core.Logic.{◌↔◌, ◌⊎◌, inl, inr}
use Prim.Native.Nat.{ℕ, ◌+◌, ◌*◌, ◌<◌}
use native.Mathlib.Decide.{dec_lt}
use native.Mathlib.Omega.{arith}
use Rattle.sums.specs.Sum.{sum}
use Rattle.sums.proofs.SumLaws.{delta_refl}
use Rattle.graph.specs.Graph.{Edge, Cycle, Acyclic}
use Rattle.graph.specs.Count.{path_count}
use Rattle.graph.specs.Update.{inserted, from_sum, to_sum, updated, Closes, into, out, through}
use Rattle.graph.proofs.Walks.{Reach, reach_refl, reach_step, reach_trans, cycle_of, walk_widen, cycle_widen}
use Rattle.graph.specs.Recurrence.{Recurrence}
use Rattle.graph.proofs.Recurrence.{mul_pos_both, some_product, path_count_recurrence, recurrence_only, recurrence_cycle}
use Rattle.graph.proofs.Recurrence.{reach_path_count, path_count_reach, path_count_self}
use Rattle.graph.proofs.Insertion.{from_cong, to_cong, Open, updated_recurrence, updated_back}

module _ (n : ℕ) (w : ℕ → ℕ → ℕ) (v : ℕ) (α β : ℕ → ℕ) where
  kept : (i j : ℕ) → i < n → j < n → Edge n w i j → Edge n (inserted w v α β) i j
  unfolding inserted
  kept i j hi hj p = omega arith

  kept_reach : (i j : ℕ) → i < n → 0 < path_count n w i j → Reach n (inserted w v α β) i j
  kept_reach i j h p = let r = reach_path_count n w i j p in (r.0, walk_widen n w _ kept i r.0 j h r.1)

  -- what has no cycle with the inserted edges has none without them
  pub before : Acyclic n (inserted w v α β) → Acyclic n w
  before a q = a (cycle_widen n w _ kept q)

  edge_in : (a : ℕ) → 0 < α a → Edge n (inserted w v α β) a v
  unfolding inserted
  edge_in a h = rw (delta_refl v) (omega arith)

  edge_out : (b : ℕ) → 0 < β b → Edge n (inserted w v α β) v b
  unfolding inserted
  edge_out b h = rw (delta_refl v) (omega arith)

  -- a path from v to a predecessor, from a successor to v or from a successor to a predecessor closes a cycle
  closes_cycle : v < n → Closes n (path_count n w) v α β → Cycle n (inserted w v α β)
  closes_cycle hv (into a ha p c) = cycle_of n _ a v ha hv (edge_in a p) (kept_reach v a hv c)
  closes_cycle hv (out b hb p c) = cycle_of n _ v b hv hb (edge_out b p) (kept_reach b v hb c)
  closes_cycle hv (through a b ha hb p q c) =
      cycle_of n _ v b hv hb (edge_out b q) (reach_trans n _ (kept_reach b a hb c) (reach_step n _ hv (edge_in a p) (reach_refl n _ v)))

  module _ (acyclic : Acyclic n w) (hv : v < n) where
    -- there is such a path, or the sums of `Open` are 0
    closes_or_open : Closes n (path_count n w) v α β ⊎ Open n (path_count n w) v α β
    unfolding from_sum to_sum
    closes_or_open =
        let C = path_count n w in
        elim (dec_lt 0 (from_sum n C α v)) [
          | yes p ↦ let r = some_product n α (C v) p in inl (into r.0 r.1 r.2 r.3)
          | no x ↦ elim (dec_lt 0 (to_sum n C β v)) [
            | yes p ↦ let r = some_product n β (λ b. C b v) p in inl (out r.0 r.1 r.2 r.3)
            | no y ↦ elim (dec_lt 0 (sum n (λ b. β b * from_sum n C α b))) [
              | yes p ↦
                  let t = some_product n β (from_sum n C α) p in
                  let r = some_product n α (C t.0) t.3 in
                  inl (through r.0 t.0 r.1 t.1 r.2 t.2 r.3)
              | no z ↦ inr (record { self = path_count_self n w acyclic v hv; from_v = omega arith; to_v = omega arith; between = omega arith })
            ]
          ]
        ]

    count_trans : (i s j : ℕ) → i < n → j < n → 0 < path_count n w i s → 0 < path_count n w s j → 0 < path_count n w i j
    count_trans i s j hi hj p q = path_count_reach n w acyclic i j hi hj (reach_trans n w (reach_path_count n w i s p) (reach_path_count n w s j q))

    -- from s to s there is one path, so if the updated table is above 1 there, one of the products it adds is above 0: there is such a path, by s
    added_closes : (s : ℕ) → 1 < updated n (path_count n w) v α β s s → s < n → Closes n (path_count n w) v α β
    unfolding updated from_sum to_sum
    added_closes s h hs =
        let C = path_count n w in
        let F = from_sum n C α s in
        let T = to_sum n C β s in
        elim (dec_lt 0 (C s v * T)) [
          | yes p ↦
              let b = some_product n β (λ b. C b s) (mul_pos_both (C s v) T p).1 in
              out b.0 b.1 b.2 (count_trans b.0 s v b.1 hv b.3 (mul_pos_both (C s v) T p).0)
          | no x ↦ elim (dec_lt 0 (F * C v s)) [
            | yes p ↦
                let a = some_product n α (C s) (mul_pos_both F (C v s) p).0 in
                into a.0 a.1 a.2 (count_trans v s a.0 hv a.1 (mul_pos_both F (C v s) p).1 a.3)
            | no y ↦
                let p = mul_pos_both F T (omega (arith, path_count_self n w acyclic s hs)) in
                let a = some_product n α (C s) p.0 in
                let b = some_product n β (λ b. C b s) p.1 in
                through a.0 b.0 a.1 b.1 a.2 b.2 (count_trans b.0 s a.0 b.1 a.1 b.3 a.3)
          ]
        ]

    open_recurrence : Open n (path_count n w) v α β → Recurrence n (inserted w v α β) (updated n (path_count n w) v α β)
    open_recurrence o = updated_recurrence n (path_count n w) v α β o w (path_count_recurrence n w acyclic) hv

    -- CYCLES: inserted edges close a cycle exactly where there is such a path without them. Where the sums of `Open` are 0, the updated table satisfies
    -- the recurrence, and a cycle makes it above 1 at a vertex on it.
    pub cycle_iff_closes : Cycle n (inserted w v α β) ↔ Closes n (path_count n w) v α β
    cycle_iff_closes = (
      λ q. elim closes_or_open [
        | inl c ↦ c
        | inr o ↦ added_closes q.at (recurrence_cycle n _ _ (open_recurrence o) q) q.bounded
      ],
      closes_cycle hv,
    )

    module _ (acyclic' : Acyclic n (inserted w v α β)) where
      no_closing : Open n (path_count n w) v α β
      no_closing = elim closes_or_open [ inl c ↦ absurd (acyclic' (closes_cycle hv c)) | inr o ↦ o ]

      -- INSERTION: the counts with the inserted edges, from those without
      pub insertion : (i j : ℕ) → i < n → j < n → path_count n (inserted w v α β) i j ≡ updated n (path_count n w) v α β i j
      insertion i j hi hj = sym (recurrence_only n _ acyclic' _ (open_recurrence no_closing) i j hi hj)

      -- DELETION: the counts without the inserted edges, from those with them
      pub deletion : (i j : ℕ) → i < n → j < n →
          let C = path_count n (inserted w v α β) in
          path_count n w i j + (C i v * to_sum n C β j + from_sum n C α i * C v j) ≡ C i j + from_sum n C α i * to_sum n C β j
      deletion i j hi hj =
          let C = path_count n (inserted w v α β) in
          let U = updated n (path_count n w) v α β in
          let t = to_cong n C U β j (λ b p. insertion b j p hj) in
          let f = from_cong n C U α i (λ a p. insertion i a hi p) in
          rw (t, f, insertion i v hi hv, insertion v j hv hj, insertion i j hi hj) (updated_back n (path_count n w) v α β no_closing i j)
