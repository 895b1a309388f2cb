-- `query::product_differs` meets its contract: each way out is a law of ShapeLaws. Assumes nothing.
use Rattle.std.proofs.Common.{rules}
use Rattle.sheet_theory.proofs.ShapeLaws.{unsized_answer, refused_answer, accepted_answer}
use Rattle.query_theory.proofs.Refusals.{reaches_without_first}
use Rattle.query.proofs.CallLaws.{without_value}
use Rattle.query.proofs.product_differs.Goals as goal

pub returns-in_err-sheet : goal.returns-in_err-sheet
returns-in_err-sheet c = unsized_answer (reaches_without_first _ _ _ _ _ _) _ c.in_err-sheet.ensures.number _ _ (search rules)

pub returns-in_err-check : goal.returns-in_err-check
returns-in_err-check c =
    let v = c.in_ok-sheet.ensures.view in
    refused_answer (reaches_without_first _ _ _ _ _ _) c.in_ok-sheet.ensures.number _ (rw (v.0, v.1) at c.in_err-check.ensures) _ _ (search rules)

pub returns : goal.returns
returns c =
    let v = c.in_ok-sheet.ensures.view in
    accepted_answer (reaches_without_first _ _ _ _ _ _) c.in_ok-sheet.ensures.number (rw (v.0, v.1) at c.in_ok-check.ensures) _ _
    (without_value _ _ _ _ _ _ _ _ _ (rw (v.0, v.1) at c.product.ensures) (rw (v.0, v.1) at c.count.ensures) c.from.ensures)
