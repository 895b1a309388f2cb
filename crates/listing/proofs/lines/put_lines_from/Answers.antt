-- `listing::lines::put_lines_from` meets its contract: one turn puts one piece. Assumes nothing.
use Rattle.std.proofs.Common.{arith}
use Rattle.text.proofs.TextLaws.{pieces_start, pieces_room, pieces_more, pieces_done}
use Rattle.listing_theory.specs.Lines.{lines_from}
use Rattle.listing.proofs.lines.put_lines_from.Goals as goal

pub loop-j-init : goal.loop-j-init
unfolding lines_from
loop-j-init c = search pieces_start

pub put_pair-place-requires : goal.put_pair-place-requires
put_pair-place-requires c = (c.requires.0, omega arith, pieces_room c.loop-j.invariant (omega arith))

pub loop-j-preserved : goal.loop-j-preserved
loop-j-preserved c = search pieces_more

pub returns : goal.returns
unfolding lines_from
returns c = search pieces_done
