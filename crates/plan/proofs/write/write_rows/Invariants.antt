-- `plan::write::write_rows` meets its contract: the records of the edges from the vertices before i are put. Assumes nothing.
use Rattle.text.proofs.TextLaws.{Pieces}
use Rattle.sheet_theory.specs.Lent.{lent}
use Rattle.plan_theory.specs.PlanOf.{row_bytes}
use Rattle.plan.proofs.write.write_rows.Given as goal

abbrev pub invariant-loop-i : goal.invariant-loop-i
invariant-loop-i l = Pieces l.initial.plan 0 (row_bytes l.sheet.n (lent l.sheet.words.now)) l.sheet.n l.i l.plan l.place
