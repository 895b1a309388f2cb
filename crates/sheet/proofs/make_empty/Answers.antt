-- `sheet::make_empty` meets its contract: each way out is a law of ShapeLaws. Assumes nothing.
use Rattle.std.proofs.Common.{[], refl, ap, rules}
use Rattle.sheet_theory.specs.Lent.{lent}
use Rattle.sheet_theory.proofs.ShapeLaws.{accepted_shape, unsized_answer, unsized_after, accepted_answer, accepted_after}
use Rattle.sheet_theory.proofs.Refusals.{empty_first}
use Rattle.sheet.proofs.make_empty.Goals as goal

pub returns-in_err-altering-clause-answer : goal.returns-in_err-altering-clause-answer
returns-in_err-altering-clause-answer c = unsized_answer (empty_first _ _) _ c.in_err-altering.ensures _ _ (search rules)

pub returns-in_err-altering-clause-words : goal.returns-in_err-altering-clause-words
returns-in_err-altering-clause-words c = unsized_after (empty_first _ _) _ c.in_err-altering.ensures _ _

pub fill_empty-requires : goal.fill_empty-requires
fill_empty-requires c = accepted_shape c.args.n (lent c.args.sheet.now) [] c.in_ok-altering.ensures

pub returns-clause-answer : goal.returns-clause-answer
returns-clause-answer c = accepted_answer (empty_first _ _) c.in_ok-altering.ensures refl _ _ refl

pub returns-clause-words : goal.returns-clause-words
returns-clause-words c = accepted_after (empty_first _ _) c.in_ok-altering.ensures refl _ _ _ (ap lent c.fill_empty.ensures)
