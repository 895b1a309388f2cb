-- `sheet::stored_count` meets its contract: each way out is a law of ShapeLaws. Assumes nothing.
use Rattle.std.proofs.Common.{rules}
use Rattle.sheet_theory.proofs.ShapeLaws.{unsized_answer, refused_answer, accepted_answer}
use Rattle.sheet_theory.proofs.Refusals.{path_count_first}
use Rattle.sheet.proofs.stored_count.Goals as goal

pub returns-in_err-sheet : goal.returns-in_err-sheet
returns-in_err-sheet c = unsized_answer (path_count_first _ _ _ _) _ c.in_err-sheet.ensures.number _ _ (search rules)

pub returns-in_err-check_vertices : goal.returns-in_err-check_vertices
returns-in_err-check_vertices c =
    refused_answer (path_count_first _ _ _ _) c.in_ok-sheet.ensures.number _ (rw c.in_ok-sheet.ensures.view.0 at c.in_err-check_vertices.ensures) _ _ (search rules)

pub returns : goal.returns
returns c =
    let v = c.in_ok-sheet.ensures.view in
    accepted_answer (path_count_first _ _ _ _) c.in_ok-sheet.ensures.number (rw v.0 at c.in_ok-check_vertices.ensures) _ _ (rw (v.0, v.1) at c.count.ensures)
