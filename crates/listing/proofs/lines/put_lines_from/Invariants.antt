-- `listing::lines::put_lines_from` meets its contract: after j turns the lines of i and the first j vertices stand in the buffer. Assumes nothing.
use Rattle.text.proofs.TextLaws.{Pieces}
use Rattle.sheet_theory.specs.Layout.{most_vertices}
use Rattle.listing_theory.specs.Lines.{pair_line}
use Rattle.listing.proofs.lines.put_lines_from.Given as goal

abbrev pub invariant-loop-j : goal.invariant-loop-j
invariant-loop-j l = Pieces l.fn.out l.at (pair_line l.sheet.words l.i) most_vertices l.j l.out l.place
