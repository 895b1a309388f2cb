-- Where there is no cycle the path counts satisfy two recurrences, by the first edge and by the last, and a table that satisfies the first is theirs,
-- also modulo m. A count is above 0 exactly where edges lead. Assumes nothing.
use mathlib.Core.Path.{◌≡◌, refl, sym, ap, ap₂, ◌∙◌}
use mathlib.Core.List.{List, [], ◌∷◌}
use Prim.Native.Nat.{ℕ, zero, suc, ◌+◌, ◌*◌, ◌%◌, ◌<◌}
use native.Mathlib.Nat.{zero-mul, mul-zero, mul-pos}
use native.Mathlib.Decide.{dec_lt, ℕ_discrete}
use native.Mathlib.Omega.{arith}
use Rattle.sums.specs.Sum.{sum, delta}
use Rattle.sums.specs.Modulo.{Congruent}
use Rattle.sums.proofs.SumLaws.{delta_refl, delta_diff, sum_cong, sum_pick', sum_pick_right, term_le, some_term, sum_all_zero, sum_mul_add, sum_add_mul, sum_assoc}
use Rattle.sums.proofs.ModuloLaws.{congruent_zero, congruent_add, congruent_mul, congruent_sum}
use Rattle.graph.specs.Count.{walks, path_count}
use Rattle.graph.specs.Graph.{Edge, Walk, Cycle, Acyclic}
use Rattle.graph.specs.Recurrence.{Recurrence, RecurrenceMod, RecurrenceBack}
use Rattle.graph.proofs.Walks.{Reach, reach_step, cycle_of}
use Rattle.graph.proofs.Deep.{Deep, deep}

-- the factors of a product above 0 are above 0
pub mul_pos_both : (a b : ℕ) → 0 < a * b → (0 < a) × (0 < b)
mul_pos_both zero b h = absurd (omega (arith, zero-mul b))
mul_pos_both (suc a) zero h = absurd (omega (arith, mul-zero (suc a)))
mul_pos_both (suc a) (suc b) h = (omega arith, omega arith)

-- a sum of products above 0 has a term whose factors are both above 0
pub some_product : (n : ℕ) (f g : ℕ → ℕ) → 0 < sum n (λ b. f b * g b) → (b : ℕ) × (b < n) × (0 < f b) × (0 < g b)
some_product n f g h =
    let r = some_term n (λ b. f b * g b) h in
    let p = mul_pos_both (f r.0) (g r.0) r.2 in
    (r.0, r.1, p.0, p.1)

module _ (n : ℕ) (w : ℕ → ℕ → ℕ) where
  -- ---- sums over the edges out of i

  -- they agree where the terms agree at the ends of the edges
  edge_congruent : (m i : ℕ) (f g : ℕ → ℕ) → ((b : ℕ) → b < n → Edge n w i b → Congruent m (f b) (g b))
      → Congruent m (sum n (λ b. w i b * f b)) (sum n (λ b. w i b * g b))
  edge_congruent m i f g h =
      congruent_sum m n (λ b. w i b * f b) (λ b. w i b * g b)
      (λ b p. elim (dec_lt 0 (w i b)) [
        | yes q ↦ congruent_mul m (w i b) (f b) (g b) (h b p q)
        | no q ↦ let z : w i b ≡ 0 = omega arith in rw (z, zero-mul (f b), zero-mul (g b))
      ])

  edge_cong : (i : ℕ) (f g : ℕ → ℕ) → ((b : ℕ) → b < n → Edge n w i b → f b ≡ g b) → sum n (λ b. w i b * f b) ≡ sum n (λ b. w i b * g b)
  edge_cong i f g h = congruent_zero (edge_congruent 0 i f g (λ b p q. ap (λ x. x % 0) (h b p q)))

  edge_pos : (i : ℕ) (f : ℕ → ℕ) (b : ℕ) → b < n → Edge n w i b → 0 < f b → 0 < sum n (λ b. w i b * f b)
  edge_pos i f b h p q = omega (arith, term_le n (λ b. w i b * f b) b h, mul-pos p q)

  -- ---- the recurrence by the first edge

  -- where no walk from i has more than k vertices, one vertex more makes no more walks
  walks_more : (k i j : ℕ) → Deep n w k i → walks n w k i j ≡ walks n w (suc k) i j
  unfolding walks
  walks_more zero i j d = absurd d
  walks_more (suc k) i j d =
      rw (edge_cong i (λ b. walks n w k b j) (λ b. walks n w (suc k) b j) (λ b h p. walks_more k b j (d b h p)))

  pub path_count_recurrence : Acyclic n w → Recurrence n w (path_count n w)
  unfolding path_count walks
  path_count_recurrence a i j hi hj = walks_more n i j (deep n w a i hi)

  -- where no walk from i has more than k vertices, a table of the recurrence counts the walks
  recurrence_walks : (m : ℕ) (C : ℕ → ℕ → ℕ) → RecurrenceMod n w m C → (k i j : ℕ) → i < n → j < n → Deep n w k i → Congruent m (C i j) (walks n w k i j)
  unfolding walks
  recurrence_walks m C r zero i j hi hj d = absurd d
  recurrence_walks m C r (suc k) i j hi hj d =
      r i j hi hj
      ∙ congruent_add m (delta i j) (sum n (λ b. w i b * C b j)) (delta i j) (sum n (λ b. w i b * walks n w k b j)) refl
      (edge_congruent m i (λ b. C b j) (λ b. walks n w k b j) (λ b h p. recurrence_walks m C r k b j h hj (d b h p)))

  pub recurrence_mod_only : Acyclic n w → (m : ℕ) (C : ℕ → ℕ → ℕ) → RecurrenceMod n w m C → (i j : ℕ) → i < n → j < n → Congruent m (C i j) (path_count n w i j)
  unfolding path_count
  recurrence_mod_only a m C r i j hi hj = recurrence_walks m C r n i j hi hj (deep n w a i hi)

  pub recurrence_only : Acyclic n w → (C : ℕ → ℕ → ℕ) → Recurrence n w C → (i j : ℕ) → i < n → j < n → C i j ≡ path_count n w i j
  recurrence_only a C r i j hi hj = congruent_zero (recurrence_mod_only a 0 C (λ i j hi hj. ap (λ x. x % 0) (r i j hi hj)) i j hi hj)

  -- ---- the recurrence by the last edge

  -- the walks of one edge or more, sorted by the last edge in place of the first
  walks_last : (k i j : ℕ) → i < n → j < n → walks n w (suc k) i j ≡ delta i j + sum n (λ a. walks n w k i a * w a j)
  unfolding walks
  walks_last zero i j hi hj =
      ap (λ x. delta i j + x) (sum_all_zero n _ (λ b p. mul-zero (w i b)) ∙ sym (sum_all_zero n _ (λ a p. zero-mul (w a j))))
  walks_last (suc k) i j hi hj =
      ap (λ x. delta i j + x)
      (sum_cong n _ _ (λ b p. ap (λ x. w i b * x) (walks_last k b j p hj))
      ∙ sum_mul_add n (w i) (λ b. delta b j) (λ b. sum n (λ a. walks n w k b a * w a j))
      ∙ ap₂ (λ x y. x + y) (sum_pick_right n j (w i) hj ∙ sym (sum_pick' n i (λ a. w a j) hi)) (sum_assoc n (w i) (walks n w k) (λ a. w a j))
      ∙ sym (sum_add_mul n (delta i) (λ a. sum n (λ b. w i b * walks n w k b a)) (λ a. w a j)))

  pub path_count_recurrence_back : Acyclic n w → RecurrenceBack n w (path_count n w)
  unfolding path_count
  path_count_recurrence_back a i j hi hj = walks_more n i j (deep n w a i hi) ∙ walks_last n i j hi hj

  -- ---- where a count is above 0

  -- a table of the recurrence is above 0 where edges lead
  recurrence_reach : (C : ℕ → ℕ → ℕ) → Recurrence n w C → (i : ℕ) (l : List ℕ) (j : ℕ) → i < n → j < n → Walk n w i l j → 0 < C i j
  recurrence_reach C r i [] j hi hj e = rw (r i j hi hj, e, delta_refl j) (omega arith)
  recurrence_reach C r i (b ∷ l) j hi hj p =
      omega (arith, r i j hi hj, edge_pos i (λ b. C b j) b p.0 p.1 (recurrence_reach C r b l j p.0 hj p.2))

  -- at a vertex on a cycle it is above 1: the vertex alone, and the way round
  pub recurrence_cycle : (C : ℕ → ℕ → ℕ) → Recurrence n w C → (q : Cycle n w) → 1 < C q.at q.at
  recurrence_cycle C r q =
      let s = q.at in
      let hs : s < n = q.bounded in
      let p : Walk n w s (q.next ∷ q.rest) s = q.back in
      omega (arith, r s s hs hs, delta_refl s, edge_pos s (λ b. C b s) q.next p.0 p.1 (recurrence_reach C r q.next q.rest s p.0 hs p.2))

  pub path_count_reach : Acyclic n w → (i j : ℕ) → i < n → j < n → Reach n w i j → 0 < path_count n w i j
  path_count_reach a i j hi hj p = recurrence_reach (path_count n w) (path_count_recurrence a) i p.0 j hi hj p.1

  reach_walks : (k i j : ℕ) → 0 < walks n w k i j → Reach n w i j
  unfolding walks
  reach_walks zero i j h = absurd (omega arith)
  reach_walks (suc k) i j h =
      elim (ℕ_discrete i j) [
        | yes e ↦ ([], e)
        | no d ↦
            let r = some_product n (w i) (λ b. walks n w k b j) (omega (arith, delta_diff i j d)) in
            reach_step n w r.1 r.2 (reach_walks k r.0 j r.3)
      ]

  pub reach_path_count : (i j : ℕ) → 0 < path_count n w i j → Reach n w i j
  unfolding path_count
  reach_path_count i j h = reach_walks n i j h

  -- from a vertex to itself there is one path: an edge that leads back would close a cycle
  pub path_count_self : Acyclic n w → (s : ℕ) → s < n → path_count n w s s ≡ 1
  path_count_self a s h =
      elim (dec_lt 0 (sum n (λ b. w s b * path_count n w b s))) [
        | yes p ↦ let r = some_product n (w s) (λ b. path_count n w b s) p in absurd (a (cycle_of n w s r.0 h r.1 r.2 (reach_path_count r.0 s r.3)))
        | no z ↦ omega (arith, path_count_recurrence a s s h h, delta_refl s)
      ]

-- ---- only the edges between vertices below n count

module _ (n : ℕ) (w w' : ℕ → ℕ → ℕ) (same : (i j : ℕ) → i < n → j < n → w i j ≡ w' i j) where
  walks_cong : (k i j : ℕ) → i < n → walks n w k i j ≡ walks n w' k i j
  unfolding walks
  walks_cong zero i j h = refl
  walks_cong (suc k) i j h = ap (λ x. delta i j + x) (sum_cong n _ _ (λ b p. ap₂ (λ x y. x * y) (same i b h p) (walks_cong k b j p)))

  pub path_count_cong : (i j : ℕ) → i < n → path_count n w i j ≡ path_count n w' i j
  unfolding path_count
  path_count_cong i j h = walks_cong n i j h
