-- `edit::edit_at` meets its contract: each way out is a law of EditLaws. Assumes nothing.
use Rattle.std.proofs.Common.{◌≡◌, Err, refl, ap, rules}
use Rattle.answer.specs.Answers.{answer_of}
use Rattle.edit.proofs.EditLaws.{effect_refused, effect_made}
use Rattle.edit.proofs.edit_at.Goals as goal

pub returns-in_err-check : goal.returns-in_err-check
returns-in_err-check c =
    let err : c.from_residual.result ≡ Err c.in_err-check.field-0.0 = search rules in
    effect_refused _ _ _ _ _ _ _ c.in_err-check.field-0.0 (ap answer_of err) c.in_err-check.ensures

pub returns : goal.returns
returns c = effect_made _ _ _ _ _ _ _ _ _ refl c.in_ok-check.ensures c.write_edit.ensures
