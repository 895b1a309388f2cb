-- `listing::lines::put_lines` meets its contract: one turn puts one piece. Assumes nothing.
use Rattle.std.proofs.Common.{arith}
use Rattle.text.proofs.TextLaws.{pieces_start, pieces_room, pieces_more, pieces_done}
use Rattle.listing_theory.specs.Lines.{count_lines}
use Rattle.listing.proofs.lines.put_lines.Goals as goal

pub loop-i-init : goal.loop-i-init
unfolding count_lines
loop-i-init c = search pieces_start

pub put_lines_from-place-requires : goal.put_lines_from-place-requires
put_lines_from-place-requires c = (omega arith, pieces_room c.loop-i.invariant (omega arith))

pub loop-i-preserved : goal.loop-i-preserved
loop-i-preserved c = search pieces_more

pub returns : goal.returns
unfolding count_lines
returns c = search pieces_done
