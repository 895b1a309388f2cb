-- The ways out of `is_valid` and `validate`. Assumes nothing.
use Rattle.std.proofs.Common.{◌≡◌, Result, Err, Bool, inr, List, [], ℕ, ◌<◌, refl}
use Rattle.answer.specs.declared.Refusal.{Refusal}
use Rattle.answer.specs.Table.{First, Reflects}
use Rattle.answer.specs.Answers.{answer_of, number_of_refusal}
use Rattle.answer.proofs.TableLaws.{reflects_iff, first_only}
use Rattle.answer.proofs.OutcomeLaws.{refusal_some}
use Rattle.sheet_theory.specs.Layout.{Shape}
use Rattle.sheet_theory.specs.Conditions.{sized}
use Rattle.sheet_theory.specs.Lent.{Lent, lent}
use Rattle.sheet_theory.specs.Valid.{Valid}
use Rattle.sheet_theory.specs.Internal.{CountsHold}
use Rattle.sheet_theory.proofs.ValidLaws.{valid_iff_holds}
use Rattle.sheet_theory.proofs.StrayLaws.{rows_iff}
use Rattle.sheet_theory.proofs.ShapeLaws.{shape_refused, shape_passed}
use Rattle.recount_theory.specs.Calls.{Validate}
use Rattle.sheet.proofs.StrayLaws.{rows_below}
use Rattle.order.specs.Internal.{Ordered}
use Rattle.order.proofs.OrderLaws.{ordered_acyclic}

module _ (n : ℕ) (s : List ℕ) where
  pub valid_holds : Shape n s → (l : List ℕ) → Ordered n s l → (b : Bool) → Reflects b ((i : ℕ) → i < n → CountsHold n s i)
      → Reflects b (Valid n (lent s))
  valid_holds shape l o b q =
      let iff = valid_iff_holds n (lent s) shape ((rows_iff n s).1 o.below) (ordered_acyclic n s l o) in
      reflects_iff iff.1 iff.0 q

module _ (n : ℕ) (s : Lent) where
  pub validate_refused : (o : Result ℕ Refusal) (e : Refusal) → o ≡ Err e → First (sized n s []) (number_of_refusal e) → Validate n s (answer_of o)
  validate_refused o e eo f =
      let number = shape_refused n s _ f (refusal_some e) [] in
      rw eo record {
        number = number;
        place = refl;
        value = inr (λ v. refusal_some e (first_only (sized n s []) _ 0 number (shape_passed n s v.shape [] 0 refl)), refl);
      }

-- where no row has a bit too many there is an order or a cycle, and with an order the counts decide
pub ruleset valid_laws = (rows_below, valid_holds)
