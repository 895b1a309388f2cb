-- `query::write_walk` meets its contract: each way out is a law of ShapeLaws or of CallLaws. Assumes nothing.
use Rattle.std.proofs.Common.{rules}
use Rattle.answer.specs.declared.Refusal.TheVariants.{NotValid}
use Rattle.sheet_theory.specs.Lent.{lent}
use Rattle.sheet_theory.proofs.ShapeLaws.{unsized_answer, unsized_after}
use Rattle.query_theory.proofs.Refusals.{unrank_first}
use Rattle.query.proofs.CallLaws.{unrank_stops, unrank_astray, unrank_arrived, found_none, found_some}
use Rattle.query.proofs.write_walk.Goals as goal

pub returns-in_err-sheet : goal.returns-in_err-sheet
returns-in_err-sheet c = record {
  answer = unsized_answer (unrank_first _ _ _ _ _ _) _ c.in_err-sheet.ensures.number _ _ (search rules);
  bytes = unsized_after (unrank_first _ _ _ _ _ _) _ c.in_err-sheet.ensures.number _ _;
}

pub returns-in_err-check : goal.returns-in_err-check
returns-in_err-check c =
    let a = c.args in
    let v = c.in_ok-sheet.ensures.view in
    let way = unrank_stops a.n (lent a.sheet.now) a.asked.from a.asked.to a.asked.k a.path.now c.in_ok-sheet.ensures.number c.from_residual-in_err-check.result
    c.in_err-check.field-0.0 (search rules) (rw (v.0, v.1) at c.in_err-check.ensures) in
    record { answer = way.0; bytes = way.1 }

pub returns-in_err-walk : goal.returns-in_err-walk
returns-in_err-walk c =
    let a = c.args in
    let v = c.in_ok-sheet.ensures.view in
    let none = found_none c.walk.result NotValid c.in_err-walk.field-0.0 _ _ c.walk.ensures (search rules) in
    let way = unrank_astray a.n (lent a.sheet.now) a.asked.from a.asked.to a.asked.k a.path.now c.in_ok-sheet.ensures.number (rw (v.0, v.1) at c.in_ok-check.ensures)
    c.from_residual-in_err-walk.result (search (rules, none)) (rw (v.0, v.1) at none.0) in
    record { answer = way.0; bytes = way.1 }

pub returns : goal.returns
returns c =
    let a = c.args in
    let v = c.in_ok-sheet.ensures.view in
    let walk = rw (v.0, v.1) at (found_some c.walk.result NotValid c.in_ok-walk.walk _ _ c.walk.ensures (search rules)) in
    let way = unrank_arrived a.n (lent a.sheet.now) a.asked.from a.asked.to a.asked.k a.path.now c.in_ok-sheet.ensures.number (rw (v.0, v.1) at c.in_ok-check.ensures)
    _ _ walk (cc c.copy_from_slice.ensures.after) in
    record { answer = way.0; bytes = way.1 }
