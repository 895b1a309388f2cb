-- What the check of the rows tells, and the ways out of `has_stray_row`. Assumes nothing.
use mathlib.Core.Path.{◌≡◌, sym, ◌∙◌}
use mathlib.Core.Bool.{Bool, true, false}
use mathlib.Core.List.{List}
use Prim.Native.Nat.{ℕ, ◌^◌, ◌≤◌, ◌<◌}
use native.Mathlib.Omega.{arith}
use borrow.Author.Tests.{ltb-false}
use lib.Dec.{ltb}
use Rattle.answer.specs.Table.{Reflects}
use Rattle.sheet_theory.specs.Layout.{row_at}
use Rattle.sheet_theory.specs.Conditions.{StrayRow}
use Rattle.sheet_theory.specs.Internal.{RowsBelow}
use Rattle.answer.proofs.TableLaws.{reflects_true, reflects_none, reflects_false}
use Rattle.sheet_theory.proofs.StrayLaws.{stray_iff, rows_iff}

pub rows_below : (n : ℕ) (s : List ℕ) (t : Bool) → Reflects t (StrayRow n s) → t ≡ false → RowsBelow n s
rows_below n s t r e = (rows_iff n s).0 ((reflects_false r).0 e)

-- ---- the ways out of `has_stray_row`: t is what the test of row i gave

module _ (n : ℕ) (s : List ℕ) where
  pub stray_found : (i : ℕ) (t : Bool) → i < n → t ≡ ltb (row_at s i) (2 ^ n) → t ≡ false → Reflects true (StrayRow n s)
  stray_found i t hi e z = reflects_true (i, hi, (stray_iff n (row_at s i)).1 (ltb-false _ _ (sym e ∙ z)))

  pub stray_none : (i : ℕ) → ((k : ℕ) → k < i → row_at s k < 2 ^ n) → n ≤ i → Reflects false (StrayRow n s)
  stray_none i h q = reflects_none ((rows_iff n s).1 (λ k l. h k (omega arith)))
