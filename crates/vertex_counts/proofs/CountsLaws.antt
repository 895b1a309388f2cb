-- The laws of the counts that the recurrence gives, and of words compared and written. Assumes nothing.
use mathlib.Core.Path.{◌≡◌, refl, sym, ap, ◌∙◌}
use mathlib.Core.Bool.{Bool}
use mathlib.Core.List.{List}
use Prim.Native.Nat.{ℕ, ◌+◌, ◌*◌, ◌%◌, ◌^◌, ◌≤◌, ◌<◌}
use native.Mathlib.Nat.{zero-add}
use native.Mathlib.Decide.{ℕ_discrete}
use native.Mathlib.Omega.{arith}
use borrow.Author.Tests.{eqb-true, eq-eqb}
use lib.Bits.{bit_or, bit_xor, and_le_l, and_le_r, xor_add_and, xor_self}
use lib.Dec.{eqb}
use lib.ListN.{length, get_or, set, length-set}
use lib.Seq.{get_or-set_same, get_or-set_other}
use Rattle.sums.specs.Sum.{sum}
use Rattle.sums.proofs.SumLaws.{delta_refl, delta_diff}
use Rattle.word.specs.Bit.{bit}
use Rattle.word.specs.Wrap.{plus}
use Rattle.word.proofs.MaskLaws.{or_zero}
use Rattle.answer.specs.Table.{Reflects}
use Rattle.sheet_theory.specs.Layout.{row_at, count_at}
use Rattle.sheet.specs.Fill.{over}
use Rattle.sheet.specs.Internal.{CountsFrom, CountsOf, SumsBy, CountsSummed, with_counts}
use Rattle.sheet_theory.specs.Internal.{successors_sum, CountsHold}
use Rattle.sheet.proofs.WordsLaws.{counts_written}
use Rattle.vertex_counts.specs.Internal.{SuccessorsSummed, SameWords}

-- ---- the counts that the recurrence gives

pub successors_summed : (n : ℕ) (s t : List ℕ) (i r : ℕ) → n ≤ 64 → i < n → CountsSummed n s (row_at s i) t → r ≡ (get_or t i 0 + 1) % 2 ^ 64
    → SuccessorsSummed n s i (set t i r)
unfolding successors_sum
successors_summed n s t i r small hi was e =
    record {
      long = length-set t i r ∙ was.long;
      sums = λ j h.
          elim (ℕ_discrete j i) [
            | yes p ↦ rw (p, get_or-set_same t i r 0 (omega arith)) (omega (arith, was.sums i hi, delta_refl i))
            | no d ↦ rw (get_or-set_other t i j r 0 d) (omega (arith, was.sums j h, delta_diff i j (λ q. d (sym q))))
          ];
    }

-- the sums of the counts from the vertices of the mask, added to words of which the first n are 0
pub summed_front : (n : ℕ) (s : List ℕ) (mask : ℕ) (z t : List ℕ) → length z ≡ 64 → ((j : ℕ) → j < n → get_or z j 0 ≡ 0) → SumsBy plus n s 0 n mask z t n
    → CountsSummed n s mask t
summed_front n s mask z t long zero was = record {
  long = was.long ∙ long;
  sums = λ j q.
      let S : ℕ → ℕ = λ k. sum n (λ b. bit mask b * count_at n s b k) in
      let e : plus (get_or z j 0) (S (0 + j)) ≡ S (0 + j) % 2 ^ 64 = rw (zero j q, zero-add) refl in
      was.each j q (omega (arith, zero j q)) ∙ e ∙ ap (λ (k : ℕ). S k % 2 ^ 64) (zero-add j);
}

-- ---- words compared

xor_zero : (a b : ℕ) → bit_xor a b ≡ 0 → a ≡ b
xor_zero a b e = omega (arith, xor_add_and a b, and_le_l a b, and_le_r a b)

module _ (s t : List ℕ) where
  -- d is 0 exactly if the first j words agree
  pub same_more : (j d : ℕ) → Reflects (eqb d 0) (SameWords j s t) → Reflects (eqb (bit_or d (bit_xor (get_or s j 0) (get_or t j 0))) 0) (SameWords (j + 1) s t)
  same_more j d was =
      record {
        holds = λ e k l.
            let z = or_zero d (bit_xor (get_or s j 0) (get_or t j 0)) (eqb-true _ _ e) in
            elim (ℕ_discrete k j) [
              | yes p ↦ rw p (xor_zero (get_or s j 0) (get_or t j 0) z.1)
              | no q ↦ was.holds (eq-eqb d 0 z.0) k (omega (arith, q))
            ];
        shows = λ h. rw (h j (omega arith), xor_self (get_or t j 0), eqb-true d 0 (was.shows (λ k l. h k (omega arith))));
      }

-- the counts from i, which l has, satisfy the recurrence exactly if they are those that it gives
pub holds_same : (n : ℕ) (s l t : List ℕ) (i : ℕ) (r : Bool) → CountsOf n s i l → SuccessorsSummed n s i t → Reflects r (SameWords (length l) l t)
    → Reflects r (CountsHold n s i)
holds_same n s l t i r of summed same =
    record {
      holds = λ e j h. sym (of.counts j h) ∙ same.holds e j (omega (arith, of.long)) ∙ summed.sums j h;
      shows = λ h. same.shows (λ j q. of.counts j (omega (arith, of.long)) ∙ h j (omega (arith, of.long)) ∙ sym (summed.sums j (omega (arith, of.long))));
    }

-- ---- the counts from a vertex written

pub counts_filled : (n : ℕ) (s t u : List ℕ) (v base : ℕ) → CountsFrom n v base → SuccessorsSummed n s v t → u ≡ over s base (λ (j : ℕ). get_or t j 0) n
    → u ≡ with_counts n s v 0 n (successors_sum n s v)
counts_filled n s t u v base at summed e =
    counts_written n s v 0 n (successors_sum n s v) u base (λ j. get_or t j 0) e (omega (arith, at.is))
    (λ j h. summed.sums j h ∙ ap (successors_sum n s v) (sym (zero-add j)))
