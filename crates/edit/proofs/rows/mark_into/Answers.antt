-- `edit::rows::mark_into` meets its contract: a turn marks the row of the lowest vertex that is left. Assumes nothing.
use Rattle.std.proofs.Common.{rules, arith}
use Rattle.word.proofs.MaskLaws.{one_shl}
use Rattle.edit.proofs.EditedRows.{marking_start, marking_more, marking_done}
use Rattle.edit.proofs.rows.mark_into.Goals as goal

pub loop-i-init : goal.loop-i-init
loop-i-init c = search (rules, marking_start)

pub loop-i-preserved : goal.loop-i-preserved
loop-i-preserved c =
    marking_more _ _ _ _ _ (λ i. search rules) c.loop-i.sheet c.loop-i.i-iterator.rest _ c.mark.result c.requires.long c.loop-i.invariant
    c.in-Some.ensures.steps.0 c.mark.type_inv
    (rw (one_shl c.args.edges.v (omega arith)) at c.mark.ensures) _ c.in-Some.ensures.steps.1

pub returns : goal.returns
returns c = marking_done _ _ _ _ _ (λ i. search rules) _ _ c.loop-i.invariant c.in-None.ensures.steps.0
