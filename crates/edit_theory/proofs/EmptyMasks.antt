-- EMPTY MASKS: an edit at a vertex that names no edge is refused by 1, 2 and 3 alone, and leaves every word as it is, on valid sheets and on
-- others. Assumes nothing.
use mathlib.Core.Path.{◌≡◌, refl, sym, ap}
use mathlib.Core.Logic.{◌⊎◌, inl, inr}
use mathlib.Core.Bool.{Bool, true, false}
use mathlib.Core.List.{[], ◌∷◌}
use Prim.Native.Nat.{ℕ, zero, suc, ◌+◌, ◌*◌, ◌^◌, ◌≤◌, ◌<◌}
use native.Mathlib.Nat.{zero-mul, mul-zero}
use native.Mathlib.Omega.{arith}
use lib.ListN.{get_or}
use Rattle.sums.specs.Sum.{sum}
use Rattle.word.specs.Bit.{bit}
use Rattle.word.specs.Wrap.{minus}
use Rattle.word.proofs.BitLaws.{bit_zero}
use Rattle.word.proofs.CountLaws.{sum_no_bits}
use Rattle.graph.specs.Update.{from_sum, to_sum, into, out, through, Closes}
use Rattle.answer.specs.Table.{◌gives◌, First}
use Rattle.answer.specs.Answers.{decided}
use Rattle.sheet_theory.specs.Layout.{count_at, set_bits}
use Rattle.sheet_theory.specs.Lent.{Lent, lent, mult_at}
use Rattle.sheet_theory.specs.Conditions.{NoVertex, StrayBit, altering}
use Rattle.sheet_theory.proofs.LayoutLaws.{redone_ext}
use Rattle.answer.proofs.TableLaws.{first_rest}
use Rattle.edit_theory.specs.Edit.{at, Edit, edges_edit, named_at}
use Rattle.edit_theory.specs.Book.{opened}
use Rattle.edit_theory.specs.Table.{SomeEdge, most_parallel, effects}
use Rattle.edit_theory.specs.Outcome.{edited_row, edited_by, edited_count, edited, edit_grounds, edit_conditions, edit_number, edit_answer, edit_after}
use Rattle.edit_theory.proofs.TestLaws.{named_of}
use Rattle.edit_theory.proofs.EditedRow.{edited_none}
use Rattle.edit_theory.proofs.Refusals.{edit_table}

no_bit : (j : ℕ) → ¬ (bit 0 j ≡ 1)
no_bit j e = omega (arith, e, bit_zero j)

no_name : (v i j : ℕ) → ¬ (named_at v 0 0 i j ≡ true)
no_name v i j e = elim (named_of v 0 0 i j e) [ inl p ↦ no_bit i p.0 | inr p ↦ no_bit j p.1 ]

module _ (n : ℕ) (s : Lent) (v : ℕ) where
  -- ---- the refusals

  no_edge : (P : ℕ → ℕ → Type 0) → ¬ (SomeEdge n (at v 0 0) P)
  no_edge P (i, hi, j, hj, e, p) = no_name v i j e

  no_cycle : ¬ (Closes n (count_at n s.words) v (bit 0) (bit 0))
  no_cycle (into k h e p) = omega (arith, bit_zero k, e)
  no_cycle (out k h e p) = omega (arith, bit_zero k, e)
  no_cycle (through j i hj hi e f p) = omega (arith, bit_zero j, e)

  no_effect : (inserts : Bool) (k : ℕ)
      → First (effects inserts n most_parallel (at v 0 0) (opened n s) (edit_grounds (edges_edit inserts n v 0 0) s)) k → k ≡ 0
  no_effect true k f = first_rest no_cycle (first_rest (no_edge (λ i j. most_parallel ≤ mult_at n s i j)) (first_rest (no_edge (λ i j. i ≡ j)) f))
  no_effect false k f = first_rest (no_edge (λ i j. mult_at n s i j ≡ 0)) f

  no_stray : ¬ (StrayBit n 0 ⊎ StrayBit n 0)
  no_stray (inl p) = no_bit p.0 p.2
  no_stray (inr p) = no_bit p.0 p.2

  module _ (inserts : Bool) where
    pub empty_masks_table : First (altering n s (NoVertex n v gives 3 ∷ [])) (edit_number (edges_edit inserts n v 0 0) s)
    empty_masks_table = let e : Edit = edges_edit inserts n v 0 0 in go (edit_number e s) ((edit_table e s (edit_number e s)).0 refl)
      where
        go : (k : ℕ) → First (edit_conditions (edges_edit inserts n v 0 0) s) k → First (altering n s (NoVertex n v gives 3 ∷ [])) k
        go k (inl p) = inl p
        go k (inr (p, inl q)) = inr (p, inl q)
        go k (inr (p, inr (q, inl r))) = inr (p, inr (q, inl r))
        go k (inr (p, inr (q, inr (r, f)))) = inr (p, inr (q, inr (r, no_effect inserts k (first_rest no_stray f))))

    -- ---- the words

    idle_by : (d : Bool) (c x y : ℕ) → c < 2 ^ 64 → edited_by d c x y 0 0 ≡ c
    unfolding edited_by minus
    idle_by true c x y h = omega (arith, mul-zero x, zero-mul y)
    idle_by false c x y h = omega (arith, mul-zero x, zero-mul y)

    idle_count : (i j : ℕ) → count_at n s.words i j < 2 ^ 64 → count_at n s.words i j ≡ edited_count inserts n s.words v 0 0 i j
    unfolding edited_count from_sum to_sum
    idle_count i j h =
        let f : sum n (λ k. bit 0 k * count_at n s.words i k) ≡ 0 = sum_no_bits n (count_at n s.words i) in
        let t : sum n (λ k. bit 0 k * count_at n s.words k j) ≡ 0 = sum_no_bits n (λ k. count_at n s.words k j) in
        rw (f, t) (sym (idle_by inserts (count_at n s.words i j) (count_at n s.words i v) (count_at n s.words v j) h))

    module _ (small : (k : ℕ) → get_or s.words k 0 < 2 ^ 64) where
      idle_words : edited inserts n s.words v 0 0 ≡ s.words
      unfolding edited
      idle_words =
          sym (redone_ext n (edited_row inserts s.words v 0 0) (edited_count inserts n s.words v 0 0) s.words s.words refl
          (λ i hi. edited_none inserts s.words v i (small i)) (λ i j hi hj. idle_count i j (small (n + i * n + j))) (λ k h. refl))

      pub empty_masks_keep : edit_after (edges_edit inserts n v 0 0) s ≡ s
      empty_masks_keep = go (edit_number (edges_edit inserts n v 0 0) s)
        where
          go : (k : ℕ) → decided k (lent (edited inserts n s.words v 0 0)) s ≡ s
          go zero = ap lent idle_words
          go (suc k) = refl

      -- the value of an accepted one is the set bits of the rows as they are
      pub empty_masks_value : (edit_answer (edges_edit inserts n v 0 0) s).number ≡ 0 → (edit_answer (edges_edit inserts n v 0 0) s).value ≡ set_bits n s.words
      empty_masks_value z = rw z (ap (set_bits n) idle_words)
