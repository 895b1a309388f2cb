-- The laws of the set bits of all rows. Assumes nothing.
use mathlib.Core.Path.{◌≡◌, refl, ap, ap₂}
use mathlib.Core.List.{List}
use Prim.Native.Nat.{ℕ, zero, suc, ◌+◌, ◌*◌, ◌≤◌, ◌<◌}
use native.Mathlib.Numerals.{add-one}
use native.Mathlib.Omega.{arith}
use Rattle.sums.specs.Sum.{sum}
use Rattle.sums.proofs.SumLaws.{sum_cong}
use Rattle.word.specs.Bit.{bit_count}
use Rattle.word.proofs.CountLaws.{bit_count_le}
use Rattle.sheet_theory.specs.Layout.{row_at, set_bits}

pub set_bits_zero : (s : List ℕ) → 0 ≡ set_bits 0 s
unfolding set_bits sum
set_bits_zero s = refl

pub set_bits_more : (s : List ℕ) (i x y : ℕ) → x ≡ set_bits i s → y ≡ bit_count (row_at s i) → x + y ≡ set_bits (i + 1) s
unfolding set_bits sum
set_bits_more s i x y ex ey = rw (add-one i) (ap₂ (λ a b. a + b) ex ey)

pub set_bits_le : (s : List ℕ) (i : ℕ) → set_bits i s ≤ 64 * i
unfolding set_bits sum
set_bits_le s zero = omega arith
set_bits_le s (suc i) = omega (arith, set_bits_le s i, bit_count_le (row_at s i))

-- the set bits of the rows are told by the rows
pub set_bits_cong : (n : ℕ) (s t : List ℕ) → ((i : ℕ) → i < n → row_at s i ≡ row_at t i) → set_bits n s ≡ set_bits n t
unfolding set_bits
set_bits_cong n s t h = sum_cong n _ _ (λ i hi. ap bit_count (h i hi))
