-- `edit::edit_named` meets its contract: each way out is a law of ShapeLaws or of EditLaws. Assumes nothing.
use Rattle.std.proofs.Common.{rules}
use Rattle.sheet_theory.specs.Lent.{lent}
use Rattle.sheet_theory.proofs.ShapeLaws.{unsized_answer, unsized_after}
use Rattle.edit_theory.proofs.Refusals.{edit_first}
use Rattle.edit.specs.Internal.{edit_of}
use Rattle.edit.proofs.EditLaws.{argument_refused, names_shape, call_edited}
use Rattle.edit.proofs.edit_named.Goals as goal

pub returns-in_err-altering-clause-answer : goal.returns-in_err-altering-clause-answer
returns-in_err-altering-clause-answer c = unsized_answer (edit_first (edit_of c.args.inserts c.args.n c.args.named) _) _ c.in_err-altering.ensures _ _ (search rules)

pub returns-in_err-altering-clause-words : goal.returns-in_err-altering-clause-words
returns-in_err-altering-clause-words c = unsized_after (edit_first (edit_of c.args.inserts c.args.n c.args.named) _) _ c.in_err-altering.ensures _ _

pub returns-in_err-edges : goal.returns-in_err-edges
returns-in_err-edges c =
    let way = argument_refused (edit_of c.args.inserts c.args.n c.args.named) (lent c.args.sheet.now) c.in_ok-altering.ensures _ c.in_err-edges.ensures.number
    c.from_residual-in_err-edges.result (search rules) in
    record { answer = way.0; words = way.1 }

pub edit_at-requires : goal.edit_at-requires
edit_at-requires c =
    names_shape (edit_of c.args.inserts c.args.n c.args.named) (lent c.args.sheet.now) c.in_ok-altering.ensures c.in_ok-edges.ensures.number _ _ _ _ _ c.in_ok-edges.ensures.edges

pub returns : goal.returns
returns c =
    let way = call_edited (edit_of c.args.inserts c.args.n c.args.named) (lent c.args.sheet.now) c.in_ok-altering.ensures c.in_ok-edges.ensures.number
    _ _ _ _ _ c.in_ok-edges.ensures.edges _ _ c.edit_at.ensures in
    record { answer = way.0; words = way.1 }
