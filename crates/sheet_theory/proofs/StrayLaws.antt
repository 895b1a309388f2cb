-- No row has a bit at n or above: as a statement of bits, and as a bound on the numbers. Assumes nothing.
use mathlib.Core.Logic.{◌↔◌}
use mathlib.Core.List.{List}
use Prim.Native.Nat.{ℕ, ◌^◌, ◌≤◌, ◌<◌}
use native.Mathlib.Nat.{lt_of_not-le}
use native.Mathlib.Decide.{dec_lt}
use native.Mathlib.Omega.{arith}
use Rattle.word.proofs.BitLaws.{bit_one_lt, bit_beyond}
use Rattle.sheet_theory.specs.Layout.{row_at}
use Rattle.sheet_theory.specs.Conditions.{StrayBit, StrayRow}
use Rattle.sheet_theory.specs.Internal.{RowsBelow}

pub stray_iff : (n x : ℕ) → StrayBit n x ↔ (2 ^ n ≤ x)
stray_iff n x = (λ b. elim (dec_lt x (2 ^ n)) [ yes l ↦ absurd (omega (arith, bit_one_lt n x b.0 l b.2, b.1)) | no l ↦ omega arith ], bit_beyond n x)

pub stray_not : (n x : ℕ) → ¬ (StrayBit n x) → x < 2 ^ n
stray_not n x h = lt_of_not-le (λ l. h ((stray_iff n x).1 l))

pub rows_iff : (n : ℕ) (s : List ℕ) → (¬ (StrayRow n s)) ↔ RowsBelow n s
rows_iff n s = (
  λ h i hi. stray_not n (row_at s i) (λ q. h (i, hi, q)),
  λ h r. omega (arith, h r.0 r.1, (stray_iff n (row_at s r.0)).0 r.2),
)
