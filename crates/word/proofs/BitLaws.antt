-- The laws of a number's bits: one bit, a bit set or cleared, the number that the bits determine, and the word of given bits.
-- Assumes nothing.
use Rattle.std.proofs.Common.{◌≡◌, ℕ, zero, suc, ◌+◌, ◌-◌, ◌*◌, ◌/◌, ◌%◌, ◌^◌, ◌<◌, ◌≤◌, Bool, true, false, ◌⊎◌, ◌↔◌, sym, refl, ap, ◌∙◌, subst, inl, inr, ⊎_elim, lt_of_lt_of_le, lt_of_le_of_lt, mul-le-mul_right, mod-lt, zero-lt-suc, add-mul, add_comm, pow-suc, lt_of_not-le, sub-le, add-one, one-add, arith, pow_pos, pow_mono, shr-shr, shr_lt, eqb-true}
use native.Mathlib.Nat.{div-eq_of_lt, zero-div}
use native.Mathlib.Decide.{dec_lt, ℕ_discrete}
use borrow.Author.Tests.{eqb-false}
use lib.Arith.{lt-one}
use lib.Count.{count_trailing_zeros}
use lib.Pow.{split, high, low, field, mod-mod-pow}
use Rattle.sums.specs.Sum.{sum}
use Rattle.word.specs.Bit.{bit, has_bit, with_bit, without_bit, of_bits}

pub bit_lt : (x j : ℕ) → bit x j < 2
bit_lt x j = mod-lt (x / 2 ^ j) (zero-lt-suc 1)

two_cases : (b : ℕ) → b < 2 → (b ≡ 0) ⊎ (b ≡ 1)
two_cases zero h = inl refl
two_cases (suc zero) h = inr refl
two_cases (suc (suc b)) h = absurd (omega arith)

pub bit_cases : (x j : ℕ) → (bit x j ≡ 0) ⊎ (bit x j ≡ 1)
bit_cases x j = two_cases (bit x j) (bit_lt x j)

pub bit_zero : (j : ℕ) → bit 0 j ≡ 0
bit_zero j = ap (λ y. y % 2) (zero-div (2 ^ j))

-- ---- the test of a bit, as a branch finds it

pub has_true : (x j : ℕ) (t : Bool) → t ≡ has_bit x j → t ≡ true → bit x j ≡ 1
has_true x j t e h = eqb-true (bit x j) 1 (sym e ∙ h)

pub has_false : (x j : ℕ) (t : Bool) → t ≡ has_bit x j → t ≡ false → bit x j ≡ 0
has_false x j t e h = ⊎_elim (λ z. z) (λ o. absurd (eqb-false (bit x j) 1 (sym e ∙ h) o)) (bit_cases x j)

-- ---- the bits of a number a above j digits r

rest_lt : (x j : ℕ) → x % 2 ^ j < 2 ^ j
rest_lt x j = mod-lt x (pow_pos j)

-- halving drops the lowest bit
pub bit_half : (x i : ℕ) → bit (x / 2) i ≡ bit x (suc i)
bit_half x i = ap (λ y. y % 2) (shr-shr x 1 i ∙ ap (λ y. x / 2 ^ y) (one-add i))

-- the bits below j are those of the remainder by 2 ^ j
pub bit_mod : (x j k : ℕ) → k < j → bit (x % 2 ^ j) k ≡ bit x k
bit_mod x j k h =
    let e : suc (j - suc k) + k ≡ j = omega arith in
    subst (λ m. bit (x % 2 ^ m) k ≡ bit x k) e (under (j - suc k))
  where
    under : (i : ℕ) → bit (x % 2 ^ (suc i + k)) k ≡ bit x k
    under i = ap (λ y. y % 2) (field x (suc i) k) ∙ ap (λ y. x / 2 ^ k % 2 ^ y % 2) (sym (add-one i)) ∙ mod-mod-pow (x / 2 ^ k) i 1

bit_below : (a j r k : ℕ) → k < j → r < 2 ^ j → bit (a * 2 ^ j + r) k ≡ bit r k
bit_below a j r k kj h = sym (bit_mod (a * 2 ^ j + r) j k kj) ∙ ap (λ y. bit y k) (low a j h)

bit_at : (a j r : ℕ) → r < 2 ^ j → bit (a * 2 ^ j + r) j ≡ a % 2
bit_at a j r h = ap (λ x. x % 2) (high a j h)

-- a number that differs from x in the digit j alone has the same bit at every other place
bit_other : (x y a j k : ℕ) → y ≡ a * 2 ^ j + x % 2 ^ j → a / 2 ≡ x / 2 ^ j / 2 → (k ≡ j → ⊥) → bit y k ≡ bit x k
bit_other x y a j k e h d =
    elim (dec_lt k j) [
      | yes l ↦ ap (λ z. bit z k) e ∙ bit_below a j (x % 2 ^ j) k l (rest_lt x j) ∙ bit_mod x j k l
      | no l ↦ let q : j + suc (k - suc j) ≡ k = omega (arith, d) in subst (λ m. bit y m ≡ bit x m) q (over (k - suc j))
    ]
  where
    above : (z i : ℕ) → bit z (j + suc i) ≡ bit (z / 2 ^ j / 2) i
    above z i = ap (λ w. w % 2) (sym (shr-shr z j (suc i))) ∙ sym (bit_half (z / 2 ^ j) i)

    over : (i : ℕ) → bit y (j + suc i) ≡ bit x (j + suc i)
    over i = above y i ∙ ap (λ z. bit z i) (ap (λ z. z / 2) (ap (λ z. z / 2 ^ j) e ∙ high a j (rest_lt x j)) ∙ h) ∙ sym (above x i)

-- ---- a bit set

set_split : (x j : ℕ) → with_bit x j ≡ (x / 2 ^ j + (1 - bit x j)) * 2 ^ j + x % 2 ^ j
unfolding with_bit
set_split x j = omega (arith, split x j, add-mul (x / 2 ^ j) (1 - bit x j) (2 ^ j))

pub bit_set_same : (x j : ℕ) → bit (with_bit x j) j ≡ 1
bit_set_same x j =
    ap (λ y. bit y j) (set_split x j) ∙ bit_at (x / 2 ^ j + (1 - bit x j)) j (x % 2 ^ j) (rest_lt x j) ∙ omega arith

pub bit_set_other : (x j k : ℕ) → (k ≡ j → ⊥) → bit (with_bit x j) k ≡ bit x k
bit_set_other x j k d = bit_other x (with_bit x j) (x / 2 ^ j + (1 - bit x j)) j k (set_split x j) (omega arith) d

-- ---- a bit cleared

-- what stands above j, the digit j, and what stands below
digit_split : (x j : ℕ) → (x / 2 ^ j - bit x j) * 2 ^ j + bit x j * 2 ^ j + x % 2 ^ j ≡ x
digit_split x j =
    let e : x / 2 ^ j - bit x j + bit x j ≡ x / 2 ^ j = omega arith in
    omega (arith, split x j, add-mul (x / 2 ^ j - bit x j) (bit x j) (2 ^ j), ap (λ y. y * 2 ^ j) e)

clear_split : (x j : ℕ) → without_bit x j ≡ (x / 2 ^ j - bit x j) * 2 ^ j + x % 2 ^ j
unfolding without_bit
clear_split x j = omega (arith, digit_split x j)

pub bit_clear_same : (x j : ℕ) → bit (without_bit x j) j ≡ 0
bit_clear_same x j =
    ap (λ y. bit y j) (clear_split x j) ∙ bit_at (x / 2 ^ j - bit x j) j (x % 2 ^ j) (rest_lt x j) ∙ omega arith

pub bit_clear_other : (x j k : ℕ) → (k ≡ j → ⊥) → bit (without_bit x j) k ≡ bit x k
bit_clear_other x j k d = bit_other x (without_bit x j) (x / 2 ^ j - bit x j) j k (clear_split x j) (omega arith) d

pub clear_twice : (x j : ℕ) → without_bit (without_bit x j) j ≡ without_bit x j
unfolding without_bit
clear_twice x j = omega (arith, ap (λ y. y * 2 ^ j) (bit_clear_same x j))

pub clear_below : (n x j : ℕ) → x < 2 ^ n → without_bit x j < 2 ^ n
unfolding without_bit
clear_below n x j h = lt_of_le_of_lt (sub-le x (bit x j * 2 ^ j)) h

pub clear_lt : (x j : ℕ) → bit x j ≡ 1 → without_bit x j < x
clear_lt x j e = omega (arith, clear_split x j, digit_split x j, ap (λ y. y * 2 ^ j) e, pow_pos j)

-- ---- the bits and the number

half_lt : (x k : ℕ) → x < 2 ^ suc k → x / 2 < 2 ^ k
half_lt x k l = shr_lt k 1 (subst (λ y. x < 2 ^ y) (sym (add-one k)) l)

-- two numbers of n digits with the same bits are one
pub bits_determine : (n a b : ℕ) → a < 2 ^ n → b < 2 ^ n → ((j : ℕ) → j < n → bit a j ≡ bit b j) → a ≡ b
bits_determine zero a b ha hb h = lt-one ha ∙ sym (lt-one hb)
bits_determine (suc n) a b ha hb h =
    let e : a / 2 ≡ b / 2 = bits_determine n (a / 2) (b / 2) (half_lt a n ha) (half_lt b n hb) (λ j l. bit_half a j ∙ h (suc j) (omega arith) ∙ sym (bit_half b j)) in
    omega (arith, h 0 (zero-lt-suc n))

-- a number of n digits has no bit at n or above
pub bit_above_zero : (x n j : ℕ) → x < 2 ^ n → n ≤ j → bit x j ≡ 0
bit_above_zero x n j h l = ap (λ y. y % 2) (div-eq_of_lt (lt_of_lt_of_le h (pow_mono l)))

-- so each bit that it has stands below n
pub bit_one_lt : (n x j : ℕ) → x < 2 ^ n → bit x j ≡ 1 → j < n
bit_one_lt n x j h e = lt_of_not-le (λ l. omega (arith, bit_above_zero x n j h l))

zeros_more : (x t : ℕ) → bit x 0 ≡ 0 → ((i : ℕ) → i < t → bit (x / 2) i ≡ 0) → (i : ℕ) → i < suc t → bit x i ≡ 0
zeros_more x t e h zero l = e
zeros_more x t e h (suc i) l = sym (bit_half x i) ∙ h i (omega arith)

-- a number of k digits that is not 0 has its lowest bit above its trailing zeros
pub trailing_lowest : (k x : ℕ) → 0 < x → x < 2 ^ k
    → (count_trailing_zeros k x < k) × (bit x (count_trailing_zeros k x) ≡ 1) × ((i : ℕ) → i < count_trailing_zeros k x → bit x i ≡ 0)
unfolding count_trailing_zeros
trailing_lowest zero x p h = absurd (omega arith)
trailing_lowest (suc k) x p h =
    elim (bit_cases x 0) [
      | inr e ↦ let o : x % 2 ≡ 1 = omega arith in rw o (omega arith, e, λ i l. absurd (omega arith))
      | inl e ↦
          let z : x % 2 ≡ 0 = omega arith in
          let t = trailing_lowest k (x / 2) (omega arith) (half_lt x k h) in
          rw z (omega (arith, t.0), sym (bit_half x (count_trailing_zeros k (x / 2))) ∙ t.1, zeros_more x (count_trailing_zeros k (x / 2)) e t.2)
    ]

lt_pow : (x : ℕ) → x < 2 ^ x
lt_pow zero = omega arith
lt_pow (suc x) = omega (arith, lt_pow x, pow-suc 2 x)

pub shr_zero_lt : (n x : ℕ) → x / 2 ^ n ≡ 0 → x < 2 ^ n
shr_zero_lt n x e = omega (arith, split x n, ap (λ y. y * 2 ^ n) e, rest_lt x n)

-- a number of more than n digits has a bit at n or above
pub bit_beyond : (n x : ℕ) → 2 ^ n ≤ x → (j : ℕ) × (n ≤ j) × (bit x j ≡ 1)
bit_beyond n x h =
    let q : ℕ = x / 2 ^ n in
    let p : 0 < q = elim (dec_lt 0 q) [ yes l ↦ l | no l ↦ absurd (omega (arith, shr_zero_lt n x (omega arith))) ] in
    (n + count_trailing_zeros q q, omega arith, ap (λ y. y % 2) (sym (shr-shr x n (count_trailing_zeros q q))) ∙ (trailing_lowest q q p (lt_pow q)).1)

-- a number has n digits if and only if it has no bit at n or above
pub below_iff : (n x : ℕ) → (x < 2 ^ n) ↔ ((j : ℕ) → n ≤ j → bit x j ≡ 0)
below_iff n x = (λ h j l. bit_above_zero x n j h l, back)
  where
    back : ((j : ℕ) → n ≤ j → bit x j ≡ 0) → x < 2 ^ n
    back h =
        elim (dec_lt x (2 ^ n)) [
          | yes l ↦ l
          | no l ↦ let r = bit_beyond n x (omega arith) in absurd (omega (arith, h r.0 r.1, r.2))
        ]

pub set_below : (n x j : ℕ) → j < n → x < 2 ^ n → with_bit x j < 2 ^ n
set_below n x j jn h = (below_iff n (with_bit x j)).1 (λ k l. bit_set_other x j k (omega arith) ∙ bit_above_zero x n k h l)

-- ---- the word of given bits

module _ (f : ℕ → ℕ) (h : (j : ℕ) → f j ≤ 1) where
  -- n digits, each 0 or 1
  digits_lt : (n : ℕ) → sum n (λ j. f j * 2 ^ j) < 2 ^ n
  unfolding sum
  digits_lt zero = omega arith
  digits_lt (suc n) = omega (arith, digits_lt n, pow-suc 2 n, mul-le-mul_right (2 ^ n) (h n))

  -- the last digit stands on top of the digits below it
  bit_digits : (n j : ℕ) → j < n → bit (sum n (λ k. f k * 2 ^ k)) j ≡ f j
  unfolding sum
  bit_digits zero j l = absurd (omega arith)
  bit_digits (suc n) j l =
      let low : ℕ = sum n (λ k. f k * 2 ^ k) in
      ap (λ y. bit y j) (add_comm low (f n * 2 ^ n))
      ∙ elim (ℕ_discrete j n) [
        | yes e ↦ rw e (bit_at (f n) n low (digits_lt n) ∙ omega (arith, h n))
        | no d ↦ bit_below (f n) n low j (omega (arith, d)) (digits_lt n) ∙ bit_digits n j (omega (arith, d))
      ]

  pub of_bits_lt : of_bits f < 2 ^ 64
  unfolding of_bits
  of_bits_lt = digits_lt 64

  pub bit_of_bits : (j : ℕ) → j < 64 → bit (of_bits f) j ≡ f j
  unfolding of_bits
  bit_of_bits j l = bit_digits 64 j l

-- it is the only word with these bits
pub of_bits_only : (x : ℕ) (f : ℕ → ℕ) → ((j : ℕ) → f j ≤ 1) → x < 2 ^ 64 → ((j : ℕ) → j < 64 → bit x j ≡ f j) → x ≡ of_bits f
of_bits_only x f h l e = bits_determine 64 x (of_bits f) l (of_bits_lt f h) (λ j q. e j q ∙ sym (bit_of_bits f h j q))
