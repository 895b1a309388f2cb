-- The laws of places, of words added to others or taken off them, of the counts from one vertex written, and of the counts from the
-- vertices of a mask added up or taken off. Assumes nothing.
use mathlib.Core.Path.{◌≡◌, refl, sym, ap, ap₂, ◌∙◌}
use mathlib.Core.Logic.{◌⊎◌, inl, inr}
use mathlib.Core.List.{List}
use Prim.Native.Nat.{ℕ, ◌+◌, ◌-◌, ◌*◌, ◌%◌, ◌^◌, ◌≤◌, ◌<◌}
use native.Mathlib.Nat.{zero-add}
use native.Mathlib.Decide.{ℕ_discrete}
use native.Mathlib.Omega.{arith}
use lib.ListN.{length, get_or, set, replicate, length-replicate, get_or-replicate}
use Rattle.sums.specs.Sum.{sum}
use Rattle.word.specs.Bit.{bit, Lowest, LowestCleared}
use Rattle.word.specs.Wrap.{plus}
use Rattle.word.specs.Combine.{Wraps}
use Rattle.word.proofs.VisitLaws.{Visiting, Passes, visiting_start, visiting_more, visiting_done, terms_start, terms_pass, terms_more}
use Rattle.sheet_theory.specs.Layout.{counts_from, count_at}
use Rattle.sheet_theory.proofs.LayoutLaws.{place_apart}
use Rattle.sheet.specs.Fill.{over}
use Rattle.sheet.specs.Internal.{CountsFrom, combined, SumsBy, CountsSummed, with_counts}
use Rattle.sheet.proofs.FillLaws.{length_puts, puts_in, puts_change, puts_cong, over_in, over_out}

-- the words from the first count from i on are the counts from i
pub base_count : (n : ℕ) (s : List ℕ) (i base : ℕ) → CountsFrom n i base → (j : ℕ) → get_or s (base + j) 0 ≡ count_at n s i j
base_count n s i base at j = ap (λ x. get_or s (x + j) 0) at.is

-- and from a column on those to the columns from it on
pub block_count : (n : ℕ) (s : List ℕ) (i base c : ℕ) → CountsFrom n i base → (j : ℕ) → get_or s (base + c + j) 0 ≡ count_at n s i (c + j)
block_count n s i base c at j = ap (λ x. get_or s x 0) (omega (arith, at.is))

-- ---- words combined with others

pub combined_more : (op : ℕ → ℕ → ℕ) (l t w : List ℕ) (j r : ℕ) → w ≡ combined op j l t → r ≡ op (get_or w j 0) (get_or l j 0) → set w j r ≡ combined op (j + 1) l t
combined_more op l t w j r ew er = puts_change t (λ k. k) (λ k x. op x (get_or l k 0)) w j j r ew refl (λ k q e. omega arith) er

module _ (op : ℕ → ℕ → ℕ) (n : ℕ) (l t u : List ℕ) (eu : u ≡ combined op n l t) where
  pub combined_long : length u ≡ length t
  combined_long = ap length eu ∙ length_puts t (λ j. j) _ n

  pub combined_at : (j : ℕ) → j < n → j < length t → get_or u j 0 ≡ op (get_or t j 0) (get_or l j 0)
  combined_at j h q = ap (λ (l : List ℕ). get_or l j 0) eu ∙ puts_in t (λ k. k) _ n j h q (λ i x y e. omega arith)

-- ---- counts from one vertex written

module _ (n : ℕ) (s : List ℕ) (i c w : ℕ) (f : ℕ → ℕ) where
  pub counts_written : (t : List ℕ) (base : ℕ) (g : ℕ → ℕ) → t ≡ over s base g w → base ≡ counts_from n i + c → ((j : ℕ) → j < w → g j ≡ f (c + j))
      → t ≡ with_counts n s i c w f
  unfolding with_counts
  counts_written t base g et eb eg =
      et ∙ puts_cong s (λ j. base + j) g (λ j. f (c + j)) w eg ∙ ap (λ (b : ℕ). over s b (λ j. f (c + j)) w) eb

  module _ (t : List ℕ) (et : t ≡ with_counts n s i c w f) where
    pub counts_as : (g : ℕ → ℕ) → ((j : ℕ) → c ≤ j → j < c + w → f j ≡ g j) → t ≡ with_counts n s i c w g
    unfolding with_counts
    counts_as g h = et ∙ puts_cong s (λ j. counts_from n i + c + j) (λ j. f (c + j)) (λ j. g (c + j)) w (λ j q. h (c + j) (omega arith) (omega arith))

    pub counts_long : length t ≡ length s
    unfolding with_counts
    counts_long = ap length et ∙ length_puts s (λ j. counts_from n i + c + j) (λ j. f (c + j)) w

    pub counts_in : counts_from n i + c + w ≤ length s → (j : ℕ) → c ≤ j → j < c + w → count_at n t i j ≡ f j
    unfolding with_counts
    counts_in h j low high =
        let e : c + (j - c) ≡ j = omega arith in
        let at : counts_from n i + c + (j - c) ≡ counts_from n i + j = omega arith in
        ap₂ (λ (l : List ℕ) (k : ℕ). get_or l k 0) et (sym at) ∙ over_in s (counts_from n i + c) (λ j. f (c + j)) w (j - c) h (omega arith) ∙ ap f e

    pub counts_out : (k : ℕ) → (k < counts_from n i + c) ⊎ (counts_from n i + c + w ≤ k) → get_or t k 0 ≡ get_or s k 0
    unfolding with_counts
    counts_out k q = ap (λ (l : List ℕ). get_or l k 0) et ∙ over_out s (counts_from n i + c) (λ j. f (c + j)) w k q

    -- the counts from another vertex, and those to other columns, stay
    pub counts_stay : c + w ≤ n → (a j : ℕ) → j < n → (a ≡ i → (j < c) ⊎ (c + w ≤ j)) → count_at n t a j ≡ count_at n s a j
    counts_stay within a j hj other =
        elim (ℕ_discrete a i) [
          | yes e ↦ rw e (counts_out _ (elim (other e) [ inl q ↦ inl (omega arith) | inr q ↦ inr (omega arith) ]))
          | no d ↦ counts_out _ (elim (place_apart n a i j d hj) [ inl q ↦ inl (omega arith) | inr q ↦ inr (omega arith) ])
        ]

-- ---- the counts from the vertices of a mask added up or taken off, by the lowest bit of what is left of it

abbrev pub Summing : (ℕ → ℕ → ℕ) → ℕ → List ℕ → ℕ → ℕ → ℕ → List ℕ → ℕ → List ℕ → Type 0
Summing op n s c w mask a rest t = Visiting n mask (SumsBy op n s c w mask a t) rest

module _ {op : ℕ → ℕ → ℕ} (wraps : Wraps op) (n : ℕ) (s : List ℕ) (c w mask : ℕ) (a : List ℕ) where
  pub summing_start : mask < 2 ^ n → Summing op n s c w mask a mask a
  summing_start h = visiting_start n mask _ h record { long = refl; each = λ j l q. terms_start wraps mask (λ b. count_at n s b (c + j)) (get_or a j 0) q }

  passes : (t : List ℕ) → Passes n mask (SumsBy op n s c w mask a t)
  passes t k h z was = record { long = was.long; each = λ j l q. terms_pass wraps mask (λ b. count_at n s b (c + j)) (get_or a j 0) n _ k h z (was.each j l q) }

  -- the counts from b, of which l has those to the w columns, are combined
  pub summing_next : (t u l : List ℕ) (rest b r m : ℕ) → w ≤ length a → Summing op n s c w mask a rest t → Lowest rest b
      → ((j : ℕ) → j < w → get_or l j 0 ≡ count_at n s b (c + j)) → m ≡ w → u ≡ combined op m l t → LowestCleared rest r → Summing op n s c w mask a r u
  summing_next t u l rest b r m h was low counts em eu er =
      let row = eu ∙ ap (λ (k : ℕ). combined op k l t) em in
      visiting_more n mask _ (passes t) rest was b low _ r er
      (λ q o p. record {
        long = combined_long op w l t u row ∙ p.long;
        each = λ j hj small.
            terms_more wraps mask (λ b. count_at n s b (c + j)) (get_or a j 0) b (get_or t j 0) (get_or u j 0) o (p.each j hj small)
            (combined_at op w l t u row j hj (omega (arith, p.long)) ∙ ap (op (get_or t j 0)) (counts j hj));
      })

  pub summing_done : (t : List ℕ) (rest : ℕ) → Summing op n s c w mask a rest t → rest ≡ 0 → SumsBy op n s c w mask a t n
  summing_done t rest was e = visiting_done n mask _ (passes t) rest was e

-- from words that are 0
pub summed_zeros : (n : ℕ) (s : List ℕ) (c w mask m : ℕ) (t : List ℕ) → w ≤ m → SumsBy plus n s c w mask (replicate m 0) t n
    → (j : ℕ) → j < w → get_or t j 0 ≡ sum n (λ b. bit mask b * count_at n s b (c + j)) % 2 ^ 64
summed_zeros n s c w mask m t h was j l =
    let z = get_or-replicate {A = ℕ} m j 0 0 (omega arith) in
    was.each j l (omega arith) ∙ rw (z, zero-add)

pub counts_summed : (n : ℕ) (s : List ℕ) (mask : ℕ) (t : List ℕ) → n ≤ 64 → SumsBy plus n s 0 n mask (replicate 64 0) t n → CountsSummed n s mask t
counts_summed n s mask t h was = record {
  long = was.long ∙ length-replicate {A = ℕ} 64 0;
  sums = λ j q.
      summed_zeros n s 0 n mask 64 t h was j q ∙ ap (λ (k : ℕ). sum n (λ b. bit mask b * count_at n s b k) % 2 ^ 64) (zero-add j);
}
