-- `query::rank_of_path` meets its contract: each way out is a law of ShapeLaws. Assumes nothing.
use Rattle.std.proofs.Common.{refl, rules}
use Rattle.answer.proofs.ByNumber.{first_not}
use Rattle.sheet_theory.proofs.ShapeLaws.{unsized_answer, refused_answer, accepted_answer}
use Rattle.query_theory.specs.Rank.{path_conditions}
use Rattle.query_theory.proofs.Refusals.{rank_first}
use Rattle.query.proofs.PathLaws.{vertices_of}
use Rattle.query.proofs.rank_of_path.Goals as goal

pub returns-in_err-sheet : goal.returns-in_err-sheet
returns-in_err-sheet c = unsized_answer (rank_first _ _ _) _ c.in_err-sheet.ensures.number _ _ (search rules)

pub returns-in_err-check_path : goal.returns-in_err-check_path
returns-in_err-check_path c =
    let v = c.in_ok-sheet.ensures.view in
    refused_answer (rank_first _ _ _) c.in_ok-sheet.ensures.number _ (rw (v.0, v.1) at c.in_err-check_path.ensures) _ _ (search rules)

pub path_rank-requires : goal.path_rank-requires
path_rank-requires c = vertices_of _ c.args.path.now (first_not (path_conditions _ _ _) 0 c.in_ok-check_path.ensures 3 refl)

pub returns : goal.returns
returns c =
    let v = c.in_ok-sheet.ensures.view in
    accepted_answer (rank_first _ _ _) c.in_ok-sheet.ensures.number (rw (v.0, v.1) at c.in_ok-check_path.ensures) _ _ (rw (v.0, v.1) at c.path_rank.ensures)
