-- `listing::lines::put_lines` meets its contract: after i turns the lines of the first i vertices stand in the buffer. Assumes nothing.
use Rattle.text.proofs.TextLaws.{Pieces}
use Rattle.sheet_theory.specs.Layout.{most_vertices}
use Rattle.listing_theory.specs.Lines.{lines_from}
use Rattle.listing.proofs.lines.put_lines.Given as goal

abbrev pub invariant-loop-i : goal.invariant-loop-i
invariant-loop-i l = Pieces l.fn.out l.at (lines_from l.sheet.words) most_vertices l.i l.out l.place
