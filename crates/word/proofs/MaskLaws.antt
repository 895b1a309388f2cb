-- The laws of masks: powers of 2, words of set bits, what is common to two words, and what the code's masks give. Assumes nothing.
use Rattle.std.proofs.Common.{◌≡◌, ℕ, zero, suc, ◌+◌, ◌-◌, ◌*◌, ◌/◌, ◌%◌, ◌^◌, ◌<◌, ◌≤◌, true, eqb, ltb, sym, ap, ◌∙◌, inl, inr, ⊎_elim, lt_of_lt_of_le, lt_of_le_of_lt, mod-eq_of_lt, one-mul, pow-suc, mul-zero, mul-one, arith, pow_pos, pow_mono, pow-add, le-ltb, lt-ltb, eq-eqb, ne_eqb}
use native.Mathlib.Nat.{sub-zero, div-eq_of_lt}
use native.Mathlib.Decide.{dec_lt, ℕ_discrete}
use lib.Pow.{pow-lt}
use lib.Bits.{bit_and, bit_or, and_le_l, and_le_r, and_shr, and_self, and_step, and_high, or_add_and, or_shr}
use Rattle.sums.specs.Sum.{delta}
use Rattle.sums.proofs.SumLaws.{delta_refl, delta_diff}
use Rattle.word.specs.Bit.{bit, with_bit, without_bit, Lowest}
use Rattle.word.proofs.BitLaws.{bit_cases, bit_zero, bit_half, bit_set_same, bit_set_other, bit_clear_same, bit_clear_other, clear_below, bits_determine, bit_one_lt, bit_beyond, shr_zero_lt}

-- ---- a power of 2, and the word whose bits below n are set

pub bit_pow : (v j : ℕ) → bit (2 ^ v) j ≡ delta j v
unfolding with_bit
bit_pow v j =
    let e : with_bit 0 v ≡ 2 ^ v = rw (bit_zero v) (omega arith) in
    elim (ℕ_discrete j v) [
      | yes q ↦ rw (q, delta_refl v) (ap (λ y. bit y v) (sym e) ∙ bit_set_same 0 v)
      | no d ↦ rw (delta_diff j v d) (ap (λ y. bit y j) (sym e) ∙ bit_set_other 0 v j d ∙ bit_zero j)
    ]

-- a bit of y is set where that of the complement is not
pub bit_not : (n y j : ℕ) → y < 2 ^ n → j < n → bit ((2 ^ n - 1) - y) j + bit y j ≡ 1
bit_not zero y j h l = absurd (omega arith)
bit_not (suc n) y zero h l = omega (arith, pow-suc 2 n)
bit_not (suc n) y (suc j) h l =
    let e : ((2 ^ suc n - 1) - y) / 2 ≡ (2 ^ n - 1) - y / 2 = omega (arith, pow-suc 2 n) in
    omega (
      arith,
      pow-suc 2 n,
      bit_half ((2 ^ suc n - 1) - y) j,
      ap (λ x. bit x j) e,
      bit_half y j,
      bit_not n (y / 2) j (omega (arith, pow-suc 2 n)) (omega arith),
    )

pub bit_low : (n j : ℕ) → j < n → bit (2 ^ n - 1) j ≡ 1
bit_low n j h = omega (arith, bit_not n 0 j (pow_pos n) h, ap (λ y. bit y j) (sub-zero (2 ^ n - 1)), bit_zero j)

-- ---- what is common to two words

pub bit_of_and : (x y j : ℕ) → bit (bit_and x y) j ≡ bit x j * bit y j
bit_of_and x y j =
    ap (λ z. z % 2) (and_shr x y j)
    ∙ ⊎_elim
    (λ e. omega (arith, and_step (x / 2 ^ j) (y / 2 ^ j), ap (λ b. b * bit y j) e))
    (λ e. omega (arith, and_step (x / 2 ^ j) (y / 2 ^ j), ap (λ b. b * bit y j) e))
    (bit_cases x j)

-- a bit that two words have in common is a bit of each
pub and_both : (x y j : ℕ) → bit (bit_and x y) j ≡ 1 → (bit x j ≡ 1) × (bit y j ≡ 1)
and_both x y j h =
    elim (bit_cases x j) [
      | inl z ↦ absurd (omega (arith, bit_of_and x y j, ap (λ a. a * bit y j) z))
      | inr o ↦ (o, omega (arith, bit_of_and x y j, ap (λ a. a * bit y j) o))
    ]

-- the bits of x below n
pub bit_below : (x n j : ℕ) → j < n → bit (bit_and x (2 ^ n - 1)) j ≡ bit x j
bit_below x n j h = bit_of_and x (2 ^ n - 1) j ∙ ap (λ z. bit x j * z) (bit_low n j h) ∙ mul-one (bit x j)

-- and what is in one of them
pub bit_of_or : (x y j : ℕ) → bit (bit_or x y) j ≡ bit x j + (1 - bit x j) * bit y j
bit_of_or x y j =
    let a : ℕ = x / 2 ^ j in
    let b : ℕ = y / 2 ^ j in
    ap (λ z. z % 2) (or_shr x y j)
    ∙ ⊎_elim
    (λ e. omega (arith, or_add_and a b, and_step a b, ap (λ c. c * bit y j) e, ap (λ c. (1 - c) * bit y j) e))
    (λ e. omega (arith, or_add_and a b, and_step a b, ap (λ c. c * bit y j) e, ap (λ c. (1 - c) * bit y j) e))
    (bit_cases x j)

pub and_zero : (x y : ℕ) → bit_and x y ≡ 0 → (j : ℕ) → bit x j ≡ 1 → bit y j ≡ 0
and_zero x y e j h = sym (rw h (one-mul (bit y j))) ∙ sym (bit_of_and x y j) ∙ ap (λ z. bit z j) e ∙ bit_zero j

-- two words that have something in common have a bit in common
pub and_some : (x y n : ℕ) → x < 2 ^ n → (bit_and x y ≡ 0 → ⊥) → (j : ℕ) × (j < n) × (bit x j ≡ 1) × (bit y j ≡ 1)
and_some x y n h d =
    let r = bit_beyond 0 (bit_and x y) (omega (arith, d)) in
    let b = and_both x y r.0 r.2 in
    (r.0, bit_one_lt n x r.0 h b.0, b.0, b.1)

pub or_zero : (x y : ℕ) → bit_or x y ≡ 0 → (x ≡ 0) × (y ≡ 0)
or_zero x y e = (omega (arith, or_add_and x y, and_le_r x y), omega (arith, or_add_and x y, and_le_l x y))

-- ---- what the code's masks give

-- 1 << j as a word
pub one_shl : (j : ℕ) → j < 64 → (1 * 2 ^ j) % 2 ^ 64 ≡ 2 ^ j
one_shl j h = ap (λ y. y % 2 ^ 64) (one-mul (2 ^ j)) ∙ mod-eq_of_lt (pow-lt h)

and_pow : (x j : ℕ) → bit_and x (2 ^ j) ≡ bit x j * 2 ^ j
and_pow x j =
    let e : 2 ^ (1 + j) - 2 ^ j ≡ 2 ^ j = omega (arith, pow-add 2 1 j) in
    ap (λ y. bit_and x y) (sym e) ∙ and_high x 1 j

pub or_pow : (x j : ℕ) → bit_or x (2 ^ j) ≡ with_bit x j
unfolding with_bit
or_pow x j =
    ⊎_elim
    (λ e. omega (arith, or_add_and x (2 ^ j), and_pow x j, ap (λ y. y * 2 ^ j) e, ap (λ y. (1 - y) * 2 ^ j) e))
    (λ e. omega (arith, or_add_and x (2 ^ j), and_pow x j, ap (λ y. y * 2 ^ j) e, ap (λ y. (1 - y) * 2 ^ j) e))
    (bit_cases x j)

pub and_not_pow : (n x j : ℕ) → x < 2 ^ n → j < n → bit_and x ((2 ^ n - 1) - 2 ^ j) ≡ without_bit x j
and_not_pow n x j h l =
    bits_determine n _ _ (lt_of_le_of_lt (and_le_l x ((2 ^ n - 1) - 2 ^ j)) h) (clear_below n x j h) (λ k kn. bit_of_and x ((2 ^ n - 1) - 2 ^ j) k ∙ at k kn)
  where
    at : (k : ℕ) → k < n → bit x k * bit ((2 ^ n - 1) - 2 ^ j) k ≡ bit (without_bit x j) k
    at k kn =
        elim (ℕ_discrete k j) [
          | yes e ↦
              let z : bit ((2 ^ n - 1) - 2 ^ j) k ≡ 0 = omega (arith, bit_not n (2 ^ j) k (pow-lt l) kn, bit_pow j k ∙ ap (λ i. delta i j) e ∙ delta_refl j) in
              rw (z, mul-zero, e) (sym (bit_clear_same x j))
          | no d ↦
              let o : bit ((2 ^ n - 1) - 2 ^ j) k ≡ 1 = omega (arith, bit_not n (2 ^ j) k (pow-lt l) kn, bit_pow j k ∙ delta_diff k j d) in
              rw (o, mul-one) (sym (bit_clear_other x j k d))
        ]

-- nothing is left of x shifted by n if and only if x has n digits
pub shr_none : (n x : ℕ) → eqb (x / 2 ^ n) 0 ≡ ltb x (2 ^ n)
shr_none n x =
    elim (dec_lt x (2 ^ n)) [
      | yes l ↦ eq-eqb (x / 2 ^ n) 0 (div-eq_of_lt l) ∙ sym (lt-ltb x (2 ^ n) l)
      | no l ↦ ne_eqb (x / 2 ^ n) 0 (λ e. l (shr_zero_lt n x e)) ∙ sym (le-ltb x (2 ^ n) (omega arith))
    ]

pub word_below : (n x : ℕ) → 64 ≤ n → x < 2 ^ 64 → true ≡ ltb x (2 ^ n)
word_below n x h l = sym (lt-ltb x (2 ^ n) (lt_of_lt_of_le l (pow_mono h)))

-- ---- a number and the number before it

and_before : (b x : ℕ) → bit x b ≡ 1 → ((k : ℕ) → k < b → bit x k ≡ 0) → bit_and x (x - 1) + 2 ^ b ≡ x
and_before zero x e h =
    let q : (x - 1) / 2 ≡ x / 2 = omega arith in
    omega (arith, and_step x (x - 1), ap (bit_and (x / 2)) q ∙ and_self (x / 2))
and_before (suc b) x e h =
    let z = h 0 (omega arith) in
    let half = and_before b (x / 2) (bit_half x b ∙ e) (λ k l. bit_half x k ∙ h (suc k) (omega arith)) in
    let q : (x - 1) / 2 ≡ x / 2 - 1 = omega (arith, half, pow_pos b) in
    omega (arith, and_step x (x - 1), ap (bit_and (x / 2)) q, half, pow-suc 2 b, pow_pos b)

-- they have the bits in common that the number has above its lowest
pub and_lowest : (x b : ℕ) → Lowest x b → bit_and x (x - 1) ≡ without_bit x b
unfolding without_bit
and_lowest x b l = omega (arith, and_before b x l.set l.least, ap (λ y. y * 2 ^ b) l.set)
