-- `edit_counts::EdgesAt::edit_all` meets its contract: a turn is a law of EditedCounts. Assumes nothing.
use Rattle.std.proofs.Common.{arith}
use Rattle.edit_counts.proofs.EditedCounts.{editing_lent, edited_from, editing_more, editing_all}
use Rattle.edit_counts.proofs.edges.EdgesAt.edit_all.Goals as goal

pub loop-i-preserved : goal.loop-i-preserved
loop-i-preserved c =
    let lent = editing_lent _ _ _ _ _ _ c.requires.shape _ _ c.loop-i.invariant (omega arith) _ c.counts_start-from.ensures in
    editing_more _ _ _ _ _ _ c.requires.shape _ _ c.loop-i.invariant (omega arith) _ c.counts_start-from.ensures _ _
    (edited_from _ _ _ _ _ _ _ _ c.args.self.vertex_fits lent _ _ c.requires.factors c.edit_counts_from.ensures)

pub returns : goal.returns
returns c = editing_all _ _ _ _ _ _ _ _ c.loop-i.invariant (omega arith)
