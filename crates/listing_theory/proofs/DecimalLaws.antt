-- The laws of numbers in decimal: the fewest digits that hold a number are its decimal, which has at most 20. Assumes nothing.
use mathlib.Core.Path.{◌≡◌, ◌∙◌}
use mathlib.Core.Bool.{Bool, true, false, cond}
use mathlib.Core.List.{List, [], ◌∷◌, ◌++◌}
use Prim.Native.Nat.{ℕ, zero, suc, ◌+◌, ◌-◌, ◌*◌, ◌/◌, ◌%◌, ◌^◌, ◌≤◌, ◌<◌}
use native.Mathlib.Nat.{pow-suc, pow-le-pow_right}
use native.Mathlib.Decide.{dec_lt}
use native.Mathlib.Omega.{arith}
use borrow.Author.Tests.{lt-ltb, le-ltb}
use lib.Dec.{ltb}
use lib.ListN.{length, take, length-append}
use Rattle.text.specs.Text.{Put}
use Rattle.io.specs.Digits.{hex_digit_ascii, last_digits, IsDigitCount}
use Rattle.listing_theory.specs.Lines.{digits_up_to, decimal}

-- ---- the fewest digits

last_digit : (x : ℕ) → hex_digit_ascii (x % 10) ≡ 48 + x % 10
last_digit x = let e : ltb (x % 10) 10 ≡ true = lt-ltb (x % 10) 10 (omega arith) in rw e

-- k + 1 digits, of which the first is not 0 if there are more than one
digits_fewest : (k m x : ℕ) → k < m → x < 10 ^ (suc k) → (0 < k → 10 ^ k ≤ x) → last_digits 10 (suc k) x ≡ digits_up_to m x
unfolding digits_up_to
digits_fewest k zero x h below above = absurd (omega arith)
digits_fewest zero (suc m) x h below above =
    let e : ltb x 10 ≡ true = lt-ltb x 10 (omega arith) in
    rw (e, last_digit x)
digits_fewest (suc k) (suc m) x h below above =
    let p₁ : 10 ^ (suc (suc k)) ≡ 10 ^ (suc k) * 10 = pow-suc 10 (suc k) in
    let p₂ : 10 ^ (suc k) ≡ 10 ^ k * 10 = pow-suc 10 k in
    let high : 10 ^ (suc k) ≤ x = above (omega arith) in
    let e : ltb x 10 ≡ false = le-ltb x 10 (omega arith) in
    rw (e, last_digit x, digits_fewest k m (x / 10) (omega arith) (omega arith) (λ q. omega arith))

-- a word has at most 20
fewest_le : (x r : ℕ) → x < 2 ^ 64 → IsDigitCount 10 1 x r → r ≤ 20
fewest_le x r h f =
    elim (dec_lt 20 r) [
      | yes l ↦ absurd (omega (arith, f.2 (omega arith), pow-le-pow_right {n = 10} (omega arith) (let w : 20 ≤ r - 1 = omega arith in w)))
      | no l ↦ omega arith
    ]

-- THE DECIMAL of a word: the fewest digits in base 10 that hold it, so there is no leading zero
pub fewest_decimal : (x r : ℕ) → x < 2 ^ 64 → IsDigitCount 10 1 x r → last_digits 10 r x ≡ decimal x
unfolding decimal
fewest_decimal x zero h f = absurd (omega (arith, f.0))
fewest_decimal x (suc k) h f =
    let e : suc k - 1 ≡ k = omega arith in
    digits_fewest k 20 x (omega (arith, fewest_le x (suc k) h f)) f.1 (λ q. (rw e at f).2 (omega arith))

-- ---- at most 20

more_le : (t : Bool) (l : List ℕ) (d m : ℕ) → length l ≤ m → length (cond t [] l ++ (d ∷ [])) ≤ suc m
more_le true l d m h = omega arith
more_le false l d m h = omega (arith, length-append l (d ∷ []))

digits_le : (m x : ℕ) → length (digits_up_to m x) ≤ m
unfolding digits_up_to
digits_le zero x = omega arith
digits_le (suc m) x = more_le (ltb x 10) (digits_up_to m (x / 10)) (48 + x % 10) m (digits_le m (x / 10))

pub decimal_le : (x : ℕ) → length (decimal x) ≤ 20
unfolding decimal
decimal_le x = digits_le 20 x

-- ---- `put`: r digits stand at the front of l

module _ (x r : ℕ) (l : List ℕ) (h : x < 2 ^ 64) (f : IsDigitCount 10 1 x r) (e : take r l ≡ last_digits 10 r x) where
  taken : take r l ≡ decimal x
  taken = e ∙ fewest_decimal x r h f

  pub decimal_room : (out : List ℕ) (at : ℕ) → at + length (decimal x) ≤ length out → at + length (take r l) ≤ length out
  decimal_room out at w = rw taken w

  pub decimal_put : (out : List ℕ) (at : ℕ) (m : List ℕ) (q : ℕ) → Put out at (take r l) m q → Put out at (decimal x) m q
  decimal_put out at m q p = rw taken at p
