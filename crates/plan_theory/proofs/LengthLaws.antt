-- The length of a plan: the ways out of its check, and the test, which decides 13. Assumes nothing.
use mathlib.Core.Path.{◌≡◌, refl}
use mathlib.Core.Logic.{inl, inr}
use mathlib.Core.List.{List, [], ◌∷◌}
use Prim.Native.Nat.{ℕ, ◌%◌, ◌≤◌, ◌<◌}
use native.Mathlib.Omega.{arith}
use lib.ListN.{length}
use Rattle.record.specs.Record.{record_bytes}
use Rattle.answer.specs.Table.{◌gives◌, First}
use Rattle.answer.proofs.TableLaws.{reflects_or, reflects_not, reflects_lt, reflects_eq, first_true_lem}
use Rattle.plan_theory.specs.Calls.{most_bytes, BadPlan, length_number}

module _ (plan : List ℕ) where
  pub length_long : most_bytes < length plan → First (BadPlan plan gives 13 ∷ []) 13
  length_long l = inl (inr l, refl)

  pub length_good : length plan % record_bytes ≡ 0 → length plan ≤ most_bytes → First (BadPlan plan gives 13 ∷ []) 0
  length_good w l = inr (λ c. elim c [ inl d ↦ d w | inr m ↦ omega (arith, m) ], refl)

  pub length_first : First (BadPlan plan gives 13 ∷ []) (length_number (length plan))
  unfolding length_number
  length_first =
      first_true_lem (BadPlan plan gives 13 ∷ []) (_ gives 13 ∷ [])
      (reflects_or (reflects_not (reflects_eq (length plan % record_bytes) 0)) (reflects_lt most_bytes (length plan)), refl, λ d. tt)
