-- The laws of the counts as an edit changes them: words with a multiple of others added, and the counts from the vertices one after the
-- other. Assumes nothing.
use Rattle.std.proofs.Common.{◌≡◌, ◌⊎◌, inl, inr, Bool, ℕ, ◌+◌, ◌-◌, ◌*◌, ◌%◌, ◌^◌, ◌≤◌, ◌<◌, List, ◌++◌, length, get_or, take, drop, refl, sym, ap, ◌∙◌, arith}
use native.Mathlib.Nat.{mod-add-mod, zero-mul, suc-mul}
use native.Mathlib.Decide.{ℕ_discrete, dec_lt}
use native.Mathlib.Numerals.{add-one}
use lib.ListN.{set}
use lib.Seq.{ext_get_or}
use Rattle.sums.proofs.SumLaws.{sum_cong}
use Rattle.word.specs.Bit.{bit}
use Rattle.graph.specs.Update.{from_sum, to_sum}
use Rattle.sheet_theory.specs.Layout.{Shape, counts_from, row_at, count_at}
use Rattle.sheet.specs.Fill.{puts}
use Rattle.sheet.specs.Internal.{CountsFrom, CountsOf, CountsSummed}
use Rattle.sheet.proofs.FillLaws.{length_puts, puts_in, puts_out, puts_change}
use Rattle.sheet.proofs.SliceLaws.{part_long, part_at, replaced_long, replaced_in, replaced_out}
use Rattle.sheet.proofs.WordsLaws.{base_count}
use Rattle.sheet_theory.proofs.LayoutLaws.{place_apart, redone_ext, length_redone, row_redone, count_redone, rest_redone}
use Rattle.edit_theory.specs.Outcome.{edited_count}
use Rattle.edit_counts.specs.Internal.{to_factor, from_factor, Factors, sum_at, with_multiple, counts_from_edited, count_by, counts_by, counts_edited}
use Rattle.edit_counts.proofs.FactorLaws.{edited_by_lem, edited_mod, sum_none}

-- ---- words with a multiple of others added

module _ (l : List ℕ) (x : ℕ) (T : List ℕ) where
  pub multiple_more : (w : List ℕ) (j a r : ℕ) → w ≡ with_multiple j l x T → a ≡ x * get_or T j 0 % 2 ^ 64 → r ≡ (get_or w j 0 + a) % 2 ^ 64
      → set w j r ≡ with_multiple (j + 1) l x T
  multiple_more w j a r ew ea er =
      puts_change l (λ k. k) (λ k y. (y + x * get_or T k 0) % 2 ^ 64) w j j r ew refl (λ k q e. omega arith) (omega arith)

  module _ (n : ℕ) (h : n ≤ length l) (w : List ℕ) (ew : w ≡ with_multiple n l x T) where
    pub multiple_long : length w ≡ length l
    multiple_long = ap length ew ∙ length_puts l (λ j. j) _ n

    pub multiple_at : (j : ℕ) → j < n → get_or w j 0 ≡ (get_or l j 0 + x * get_or T j 0) % 2 ^ 64
    multiple_at j q = ap (λ (k : List ℕ). get_or k j 0) ew ∙ puts_in l (λ k. k) _ n j q (omega arith) (λ i y z e. omega arith)

    multiple_out : (k : ℕ) → n ≤ k → get_or w k 0 ≡ get_or l k 0
    multiple_out k q = ap (λ (y : List ℕ). get_or y k 0) ew ∙ puts_out l (λ j. j) _ n k (λ j p e. omega arith)

  -- nothing is added where x is 0
  pub multiple_none : (n : ℕ) → n ≤ length l → ((j : ℕ) → j < n → get_or l j 0 < 2 ^ 64) → x ≡ 0 → l ≡ with_multiple n l x T
  multiple_none n h small e =
      ext_get_or 0 l (with_multiple n l x T) (sym (multiple_long n h _ refl))
      (λ k q.
      elim (dec_lt k n) [
        | yes p ↦ sym (multiple_at n h _ refl k p ∙ rw e (simp zero-mul (omega (arith, small k p))))
        | no p ↦ sym (multiple_out n h _ refl k (omega arith))
      ])

-- ---- the counts from one vertex

-- both multiples, where f is the sum over the predecessors a and x the factor of T
pub counts_from_edited_lem : (inserts : Bool) (n : ℕ) (l : List ℕ) (v a f x : ℕ) (T U h w : List ℕ) → f ≡ sum_at n l a
    → x ≡ to_factor inserts (get_or l v 0) f → h ≡ with_multiple n l x T → w ≡ with_multiple n h f U → w ≡ counts_from_edited inserts n l v a T U
counts_from_edited_lem inserts n l v a f x T U h w ef ex eh e =
    e
    ∙ ap (λ (k : List ℕ). with_multiple n k f U) (eh ∙ ap (λ (y : ℕ). with_multiple n l y T) ex)
    ∙ ap (λ (g : ℕ). with_multiple n (with_multiple n l (to_factor inserts (get_or l v 0) g) T) g U) ef

-- `from_factors`: what the loop leaves, after j turns
pub factors_all : (inserts : Bool) (n : ℕ) (s : List ℕ) (v a : ℕ) (T z U : List ℕ) (j : ℕ) → n ≤ length z
    → U ≡ puts z (λ k. k) (λ k. from_factor inserts (get_or T k 0) (count_at n s v k)) j → n ≤ j → Factors inserts n s v a T U
factors_all inserts n s v a T z U j h e f =
    inr (λ k q. ap (λ (r : List ℕ). get_or r k 0) e ∙ puts_in z (λ i. i) _ j k (omega arith) (omega arith) (λ i x y o. omega arith))

module _ (inserts : Bool) (n : ℕ) (s : List ℕ) (v a i : ℕ) (T l : List ℕ) where
  -- the counts from i as the edit leaves them
  pub record Edited (w : List ℕ) : Type 0 where
    pub long : length w ≡ n
    pub counts : (j : ℕ) → j < n → get_or w j 0 ≡ count_by inserts n s v a T i j

  module _ (hv : v < n) (was : CountsOf n s i l) where
    sums : sum_at n l a ≡ from_sum n (count_at n s) (bit a) i % 2 ^ 64
    unfolding from_sum
    sums = ap (λ y. y % 2 ^ 64) (sum_cong n _ _ (λ k q. ap (λ y. bit a k * y) (was.counts k q)))

    -- where there are no predecessors, what u has is multiplied by 0
    product : (U : List ℕ) → Factors inserts n s v a T U
        → (j : ℕ) → j < n → sum_at n l a * get_or U j 0 ≡ sum_at n l a * from_factor inserts (get_or T j 0) (count_at n s v j)
    product U (inl e) j q = rw (e, sum_none n l, zero-mul (get_or U j 0), zero-mul (from_factor inserts (get_or T j 0) (count_at n s v j))) refl
    product U (inr h) j q = ap (λ y. sum_at n l a * y) (h j q)

    -- a turn of `edit_all`
    pub edited_from : (U w : List ℕ) → Factors inserts n s v a T U → w ≡ counts_from_edited inserts n l v a T U → Edited w
    edited_from U w h ew =
        let f : ℕ = sum_at n l a in
        let m : List ℕ = with_multiple n l (to_factor inserts (get_or l v 0) f) T in
        let fits : n ≤ length l = omega (arith, was.long) in
        let same : length m ≡ length l = multiple_long l _ T n fits m refl in
        record {
          long = multiple_long m f U n (omega (arith, same)) w ew ∙ same ∙ was.long;
          counts = λ j q.
              multiple_at m f U n (omega (arith, same)) w ew j q
              ∙ rw (product U h j q, multiple_at l _ T n fits m refl j q, mod-add-mod, was.counts j q, was.counts v hv, sums)
              (edited_by_lem (count_at n s i j) (count_at n s i v) (count_at n s v j) (from_sum n (count_at n s) (bit a) i) (get_or T j 0) inserts);
        }

-- ---- the vertices one after the other

-- t is s with the counts from the first i vertices as the edit leaves them
pub record Editing (inserts : Bool) (n : ℕ) (s : List ℕ) (v a : ℕ) (T : List ℕ) (i : ℕ) (t : List ℕ) : Type 0 where
  pub long : length t ≡ length s
  pub done : (k : ℕ) → k < i → (j : ℕ) → j < n → count_at n t k j ≡ count_by inserts n s v a T k j
  pub kept : (x : ℕ) → (x < n) ⊎ (counts_from n i ≤ x) → get_or t x 0 ≡ get_or s x 0

module _ (inserts : Bool) (n : ℕ) (s : List ℕ) (v a : ℕ) (T : List ℕ) where
  pub editing_all : (i : ℕ) (t : List ℕ) → Editing inserts n s v a T i t → i ≡ n → t ≡ counts_by inserts n s v a T
  editing_all i t was e =
      redone_ext n (row_at s) (count_by inserts n s v a T) s t was.long (λ k h. was.kept k (inl h))
      (λ k j hk hj. was.done k (omega arith) j hj)
      (λ x q. was.kept x (inr (rw e q)))

  module _ (shape : Shape n s) (i : ℕ) (t : List ℕ) (was : Editing inserts n s v a T i t) (hi : i < n) (base : ℕ) (at : CountsFrom n i base) where
    pub editing_fits : base + n ≤ length t
    editing_fits = omega (arith, at.within, was.long, shape.long)

    -- what is lent are the counts from i
    pub editing_lent : CountsOf n s i (take (base + n - base) (drop base t))
    editing_lent = record {
      long = part_long t base (base + n) editing_fits (omega arith) ∙ omega arith;
      counts = λ j q.
          part_at t base (base + n) editing_fits j (omega arith)
          ∙ base_count n t i base at j
          ∙ was.kept (counts_from n i + j) (inr (omega arith));
    }

    -- a turn of the loop, which leaves w for them
    pub editing_more : (l w : List ℕ) → Edited inserts n s v a i T l w
        → Editing inserts n s v a T (i + 1) (take base t ++ (w ++ drop (base + n - base) (drop base t)))
    editing_more l w row =
        let k : base + n - base ≡ n = omega arith in
        rw k
        record {
          long = replaced_long t w base n editing_fits row.long ∙ was.long;
          done = λ k q j hj.
              elim (ℕ_discrete k i) [
                | yes p ↦ rw p (ap (λ (y : ℕ). get_or (take base t ++ (w ++ drop n (drop base t))) (y + j) 0) (sym at.is) ∙ replaced_in t w base n editing_fits row.long j hj ∙ row.counts j hj)
                | no p ↦ replaced_out t w base n editing_fits row.long (counts_from n k + j) (rw at.is (place_apart n k i j p hj)) ∙ was.done k (omega (arith, p)) j hj
              ];
          kept = λ x q.
              elim q [
                | inl p ↦ replaced_out t w base n editing_fits row.long x (inl (omega (arith, at.is))) ∙ was.kept x (inl p)
                | inr p ↦
                    let after : base + n ≤ x = omega (arith, suc-mul i n, add-one i, at.is) in
                    replaced_out t w base n editing_fits row.long x (inr after) ∙ was.kept x (inr (omega (arith, at.is)))
              ];
        }

-- `edit_counts`: the counts by the sums t for the successors b
pub counts_edited_lem : (inserts : Bool) (n : ℕ) (s : List ℕ) (v a b : ℕ) (t w : List ℕ) → Shape n s → CountsSummed n s b t
    → w ≡ counts_by inserts n s v a t → w ≡ counts_edited inserts n s v a b
unfolding edited_count to_sum
counts_edited_lem inserts n s v a b t w shape was e =
    e
    ∙ redone_ext n (row_at s) (edited_count inserts n s v a b) s _ (length_redone n _ _ s) (row_redone n _ _ s shape.long)
    (λ i j hi hj. count_redone n _ _ s shape.long i j hi hj ∙ rw (was.sums j hj) (edited_mod _ _ _ _ _ inserts))
    (rest_redone n _ _ s)
