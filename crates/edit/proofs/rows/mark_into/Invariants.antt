-- `edit::rows::mark_into` meets its contract: the rows that are gone from what is left of the mask are marked, and every other word is as
-- it was. Assumes nothing.
use Rattle.edit.proofs.EditedRows.{Marking}
use Rattle.edit.proofs.rows.mark_into.Given as goal

abbrev pub invariant-loop-i : goal.invariant-loop-i
invariant-loop-i l = Marking l.edges.inserts l.edges.n l.initial.sheet l.edges.v l.edges.predecessors l.i-iterator.rest l.sheet
