-- `plan::write::write_rows` meets its contract: there is room for the records of the edges from i. Assumes nothing.
use Rattle.std.proofs.Common.{arith}
use Rattle.text.proofs.TextLaws.{pieces_start, pieces_room, pieces_more}
use Rattle.plan.proofs.write.write_rows.Goals as goal

pub loop-i-init : goal.loop-i-init
loop-i-init c = pieces_start _ _ _ _ (omega (arith, c.requires))

pub write_row-place-requires : goal.write_row-place-requires
write_row-place-requires c = (omega arith, pieces_room c.loop-i.invariant (omega arith))

pub loop-i-preserved : goal.loop-i-preserved
loop-i-preserved c = pieces_more c.loop-i.invariant (omega arith) c.write_row-place.ensures
