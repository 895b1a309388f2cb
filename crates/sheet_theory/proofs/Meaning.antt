-- WHAT THE CALLS MEAN, in terms of paths and of valid sheets. Assumes nothing.
use mathlib.Core.Path.{◌≡◌, sym, ap, subst, ◌∙◌}
use mathlib.Core.List.{[]}
use Prim.Native.Nat.{ℕ, ◌+◌, ◌*◌, ◌%◌, ◌^◌, ◌≤◌, ◌<◌}
use native.Mathlib.Nat.{mod-eq_of_lt, zero-mul, mul-le-mul_right}
use native.Mathlib.Decide.{ℕ_discrete}
use native.Mathlib.Omega.{arith}
use lib.ListN.{length, set, replicate, length-replicate}
use lib.Pow.{pow_pos}
use lib.Seq.{get_or-set_same, get_or-set_other}
use Rattle.sums.specs.Sum.{sum, delta}
use Rattle.sums.proofs.SumLaws.{sum_cong, sum_all_zero, delta_refl, delta_diff}
use Rattle.word.specs.Bit.{bit, bit_count}
use Rattle.word.proofs.BitLaws.{bit_zero}
use Rattle.word.proofs.CountLaws.{bit_count_below}
use Rattle.graph.specs.Graph.{PathsExactly}
use Rattle.graph.proofs.Edges.{edges_le}
use Rattle.graph.proofs.Walks.{edgeless_acyclic}
use Rattle.sheet_theory.specs.Layout.{size, row_at, count_at, edge_at, empty_sheet, set_bits}
use Rattle.sheet_theory.specs.Lent.{Lent, lent, Lends, mult_at, empty_lent}
use Rattle.sheet_theory.specs.Conditions.{vertex_conditions}
use Rattle.sheet_theory.specs.Valid.{Valid}
use Rattle.sheet_theory.specs.Calls.{empty_number, empty_answer, empty_after, path_count_number, path_count_answer}
use Rattle.answer.proofs.AnswerLaws.{decided_new}
use Rattle.sheet_theory.specs.Internal.{successors_sum, CountsHold}
use Rattle.sheet_theory.proofs.ShapeLaws.{accepted_shape, shape_passed, vertex_good}
use Rattle.sheet_theory.proofs.StrayLaws.{rows_iff}
use Rattle.sheet_theory.proofs.LayoutLaws.{from_within, length_redone, row_redone, count_redone}
use Rattle.sheet_theory.proofs.ValidLaws.{edge_le, valid_iff_holds, valid_only}
use Rattle.sheet_theory.proofs.Refusals.{empty_table, path_count_table}

-- ---- empty

module _ (n : ℕ) where
  empty_long : length (empty_sheet n) ≡ size n
  unfolding empty_sheet
  empty_long = length_redone n (λ i. 0) delta (replicate (size n) 0) ∙ length-replicate {A = ℕ} (size n) 0

  -- its rows are 0
  pub empty_row : (i : ℕ) → i < n → row_at (empty_sheet n) i ≡ 0
  unfolding empty_sheet
  empty_row i hi = row_redone n (λ i. 0) delta (replicate (size n) 0) (length-replicate {A = ℕ} (size n) 0) i hi

  empty_count : (i j : ℕ) → i < n → j < n → count_at n (empty_sheet n) i j ≡ delta i j
  unfolding empty_sheet
  empty_count i j hi hj = count_redone n (λ i. 0) delta (replicate (size n) 0) (length-replicate {A = ℕ} (size n) 0) i j hi hj

  -- the empty sheet has no edge
  pub empty_edge : (i j : ℕ) → i < n → j < n → edge_at (empty_sheet n) i j ≡ 0
  empty_edge i j hi hj = ap (λ (x : ℕ). bit x j) (empty_row i hi) ∙ bit_zero j

  delta_small : (i j : ℕ) → delta i j < 2 ^ 64
  delta_small i j = elim (ℕ_discrete i j) [ yes e ↦ rw (e, delta_refl j) (omega (arith, pow_pos 64)) | no d ↦ rw (delta_diff i j d) (pow_pos 64) ]

  empty_holds : (i : ℕ) → i < n → CountsHold n (empty_sheet n) i
  unfolding successors_sum
  empty_holds i hi j hj =
      let e : delta i j + sum n (λ b. edge_at (empty_sheet n) i b * count_at n (empty_sheet n) b j) ≡ delta i j
      = omega (arith, sum_all_zero n _ (λ b hb. ap (λ (x : ℕ). x * count_at n (empty_sheet n) b j) (empty_edge i b hi hb) ∙ zero-mul _)) in
      empty_count i j hi hj ∙ sym (ap (λ (x : ℕ). x % 2 ^ 64) e ∙ mod-eq_of_lt (delta_small i j))

  -- and is valid
  pub empty_valid : 1 ≤ n → n ≤ 64 → Valid n (empty_lent n)
  empty_valid low high =
      (valid_iff_holds n (empty_lent n) (record { low = low; high = high; long = empty_long })
      (λ r. omega (arith, r.2.2, ap (λ (x : ℕ). bit x r.2.0) (empty_row r.0 r.1) ∙ bit_zero r.2.0))
      (edgeless_acyclic n (edge_at (empty_sheet n)) empty_edge)).1 empty_holds

-- an accepted call leaves a valid sheet without edges
pub empty_leaves : (n : ℕ) (s : Lent) → (empty_answer n s).number ≡ 0
    → Valid n (empty_after n s) × ((i j : ℕ) → i < n → j < n → mult_at n (empty_after n s) i j ≡ 0)
empty_leaves n s z =
    let e : empty_after n s ≡ empty_lent n = decided_new (empty_number n s) (empty_lent n) s z in
    let h : Lends n s = accepted_shape n s [] ((empty_table n s 0).0 z) in
    rw e (empty_valid n h.low h.high, empty_edge n)

-- ---- path_count

-- on a valid sheet a call that names two vertices is accepted, and the value is exactly the number of paths from the one to the other
pub path_count_exact : (n : ℕ) (s : Lent) (i j : ℕ) → Valid n s → i < n → j < n
    → ((path_count_answer n s i j).number ≡ 0) × PathsExactly n (edge_at s.words) i j (path_count_answer n s i j).value
path_count_exact n s i j v hi hj =
    let z : (path_count_answer n s i j).number ≡ 0
    = (path_count_table n s i j 0).1 (shape_passed n s v.shape (vertex_conditions n i j []) 0 (vertex_good n i j hi hj)) in
    (z, subst (PathsExactly n (edge_at s.words) i j) (sym (decided_new (path_count_number n s i j) _ 0 z)) (v.counts i j hi hj))

-- ---- valid sheets

-- a valid sheet has at most 2,016 edges
pub valid_edges_le : (n : ℕ) (s : Lent) → Valid n s → set_bits n s.words ≤ 2016
unfolding set_bits
valid_edges_le n s v =
    let high : n ≤ 64 = v.shape.high in
    let w = s.words in
    let e : sum n (λ i. bit_count (row_at w i)) ≡ sum n (λ i. sum n (edge_at w i))
    = sum_cong n _ _ (λ i hi. bit_count_below n (row_at w i) high ((rows_iff n w).0 v.rows i hi)) in
    omega (arith, e, edges_le n (edge_at w) v.acyclic (λ i j hi hj. edge_le w i j), mul-le-mul_right n high)

-- a valid sheet with one count word changed is not valid
pub valid_changed : (n : ℕ) (s : Lent) → Valid n s → (i j x : ℕ) → i < n → j < n → (x ≡ count_at n s.words i j → ⊥)
    → ¬ (Valid n (lent (set s.words (n + i * n + j) x)))
valid_changed n s v i j x hi hj d v' =
    let w = s.words in
    let e = valid_only n (lent (set w (n + i * n + j) x)) s v' v (λ k hk. get_or-set_other w (n + i * n + j) k x 0 (λ q. omega arith)) in
    d (sym (get_or-set_same w (n + i * n + j) x 0 (omega (arith, from_within n i hi, v.shape.long))) ∙ ap (λ (l : Lent). count_at n l.words i j) e)
