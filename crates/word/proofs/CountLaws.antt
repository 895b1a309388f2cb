-- The laws of sums over the bits of a word, of how many are set, and of the lowest that is set. Assumes nothing.
use Rattle.std.proofs.Common.{◌≡◌, ℕ, zero, suc, ◌+◌, ◌-◌, ◌*◌, ◌/◌, ◌%◌, ◌^◌, ◌<◌, ◌≤◌, sym, ap, ◌∙◌, subst, ap₂, inl, inr, ⊎_elim, lt_of_lt_of_le, add-zero, mod-lt, mod-eq_of_lt, add_comm, one-mul, zero-mul, one-add, arith, pow_pos, pow_mono, shr_lt}
use native.Mathlib.Decide.{ℕ_discrete}
use lib.Arith.{lt-one}
use lib.Pow.{split, ones_lt}
use lib.Count.{ones, ones_cat, ones-ones, count_trailing_zeros, count_leading_zeros, leading_top}
use Rattle.sums.specs.Sum.{sum, delta}
use Rattle.sums.proofs.SumLaws.{delta_refl, delta_diff, sum_cong, sum_add, sum_all_zero, sum_pick, sum_far, term_le, sum_mono, sum_const}
use Rattle.word.specs.Bit.{bit, without_bit, bit_count, Lowest, Highest, LowestCleared}
use Rattle.word.proofs.BitLaws.{bit_lt, bit_cases, bit_zero, bit_mod, bit_clear_same, bit_clear_other, clear_lt, bit_above_zero, bit_one_lt, bit_beyond, trailing_lowest}

-- a sum over the set bits where there are none
pub sum_no_bits : (n : ℕ) (f : ℕ → ℕ) → sum n (λ b. bit 0 b * f b) ≡ 0
sum_no_bits n f = sum_all_zero n _ (λ b l. rw (bit_zero b) (zero-mul (f b)))

-- ---- how many bits are set

pub bit_count_clear : (x j : ℕ) → j < 64 → bit_count x ≡ bit_count (without_bit x j) + bit x j
unfolding bit_count
bit_count_clear x j h =
    sum_cong 64 _ (λ b. f b + delta b j * bit x b) (λ b l. at b) ∙ sum_add 64 f (λ b. delta b j * bit x b) ∙ ap (λ y. sum 64 f + y) (sum_pick 64 j (bit x) h)
  where
    f : ℕ → ℕ
    f = bit (without_bit x j)

    at : (b : ℕ) → bit x b ≡ f b + delta b j * bit x b
    at b =
        elim (ℕ_discrete b j) [
          | yes q ↦ rw (q, delta_refl j, one-mul) (omega (arith, bit_clear_same x j))
          | no d ↦ rw (delta_diff b j d, zero-mul, add-zero) (sym (bit_clear_other x j b d))
        ]

pub bit_count_pos : (x j : ℕ) → bit x j ≡ 1 → j < 64 → 0 < bit_count x
unfolding bit_count
bit_count_pos x j e h = omega (arith, term_le 64 (λ b. bit x b) j h)

-- a word without a bit at n or above has its set bits below n
pub bit_count_below : (n x : ℕ) → n ≤ 64 → x < 2 ^ n → bit_count x ≡ sum n (λ j. bit x j)
unfolding bit_count
bit_count_below n x h l = sum_far n 64 (λ j. bit x j) h (λ j q _. bit_above_zero x n j l q)

pub bit_count_le : (x : ℕ) → bit_count x ≤ 64
unfolding bit_count
bit_count_le x = omega (arith, sum_mono 64 (bit x) (λ j. 1) (λ j h. omega (arith, bit_lt x j)), sum_const 64 1)

ones_bit : (x j : ℕ) → ones (bit x j) ≡ bit x j
unfolding ones
ones_bit x j = ⊎_elim (λ e. rw e) (λ e. rw e) (bit_cases x j)

-- the machine's count of a number's digits is the sum of its bits
ones_sum : (n x : ℕ) → x < 2 ^ n → ones x ≡ sum n (λ j. bit x j)
unfolding ones sum
ones_sum zero x h = ap ones (lt-one h)
ones_sum (suc n) x h =
    let q : bit x n ≡ x / 2 ^ n = mod-eq_of_lt (shr_lt 1 n (subst (λ y. x < 2 ^ y) (sym (one-add n)) h)) in
    ap ones (sym (split x n))
    ∙ ones_cat n (x / 2 ^ n) (x % 2 ^ n) (mod-lt x (pow_pos n))
    ∙ ap₂ (λ y z. y + z) (ap ones (sym q) ∙ ones_bit x n)
    (ones_sum n (x % 2 ^ n) (mod-lt x (pow_pos n)) ∙ sum_cong n (λ k. bit (x % 2 ^ n) k) (λ k. bit x k) (λ k l. bit_mod x n k l))
    ∙ add_comm (bit x n) (sum n (λ j. bit x j))

pub bit_count_ones : (x : ℕ) → x < 2 ^ 64 → ones x ≡ bit_count x
unfolding bit_count
bit_count_ones x h = ones_sum 64 x h

pub bit_count_low : (n : ℕ) → n ≤ 64 → bit_count (2 ^ n - 1) ≡ n
bit_count_low n h = sym (bit_count_ones (2 ^ n - 1) (lt_of_lt_of_le (ones_lt n) (pow_mono h))) ∙ ones-ones n

-- ---- the lowest bit that is set

pub lowest_trailing : (x : ℕ) → 0 < x → x < 2 ^ 64 → Lowest x (count_trailing_zeros 64 x)
lowest_trailing x p h = let t = trailing_lowest 64 x p h in record { within = t.0; set = t.1; least = t.2; below = λ n h. bit_one_lt n x _ h t.1 }

-- below the leading zeros stands a set bit, and none is above it
pub highest_leading : (x : ℕ) → 0 < x → x < 2 ^ 64 → Highest x (63 - count_leading_zeros 64 x)
highest_leading x p h =
    let t = leading_top 64 x p h in
    let b = bit_beyond t.0 x t.2 in
    let e : 63 - count_leading_zeros 64 x ≡ b.0 = omega (arith, t.1, b.1, bit_one_lt _ x b.0 t.3 b.2) in
    record {
      within = omega arith;
      set = rw e b.2;
      greatest = λ k l. elim (bit_cases x k) [ inl z ↦ z | inr o ↦ absurd (omega (arith, t.1, bit_one_lt _ x k t.3 o)) ];
    }

-- with its lowest bit cleared a number falls
pub lowest_cleared_lt : (x b r : ℕ) → Lowest x b → LowestCleared x r → r < x
lowest_cleared_lt x b r l e = rw (e b l) (clear_lt x b l.set)
