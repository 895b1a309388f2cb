-- `plan::write::write_row` meets its contract: the record of the edge to the lowest vertex that is left is put. Assumes nothing.
use Rattle.std.proofs.Common.{arith}
use Rattle.plan.proofs.WriteLaws.{writing_start, writing_room, writing_more, writing_done}
use Rattle.plan.proofs.write.write_row.Goals as goal

pub loop-j-init : goal.loop-j-init
loop-j-init c = writing_start _ _ _ _ _ _ _ c.low_bits.ensures (cc) c.requires.1

pub write_edge-place-requires : goal.write_edge-place-requires
write_edge-place-requires c =
    let low = c.in-Some.ensures.steps.0 in
    (omega (arith, c.args.sheet.shape.high), low.within, writing_room _ _ _ _ _ _ _ _ c.loop-j.invariant _ low)

pub loop-j-preserved : goal.loop-j-preserved
loop-j-preserved c =
    let low = c.in-Some.ensures.steps.0 in
    writing_more _ _ _ _ _ _ _ _ c.loop-j.invariant _ low _ _ _ c.write_edge-place.ensures c.in-Some.ensures.steps.1

pub returns : goal.returns
returns c = writing_done _ _ _ _ _ _ _ _ c.loop-j.invariant c.in-None.ensures.steps.0
