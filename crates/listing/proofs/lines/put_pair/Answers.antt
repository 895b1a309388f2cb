-- `listing::lines::put_pair` meets its contract: the words are a sheet of 64 vertices, and each way out is a law of the lines.
-- Assumes nothing.
use Rattle.std.proofs.Common.{rules, arith}
use Rattle.sheet_theory.proofs.LayoutLaws.{greatest}
use Rattle.listing_theory.proofs.LineLaws.{pair_same, pair_none, pair_room, pair_put}
use Rattle.listing.proofs.lines.put_pair.Goals as goal
use Rattle.listing.proofs.lines.put_pair.Goals.{then-i-j-via-then-i-j, then-i-j-via-else-i-j+then-count-eq0}

pub invariant_of-read : goal.invariant_of-read
invariant_of-read c = record { shape = record { low = omega arith; high = omega arith; long = search (rules, greatest) } }

pub returns-then-i-j : goal.returns-then-i-j
returns-then-i-j c =
    elim c.then-i-j.branch [
      | then-i-j-via-then-i-j w ↦ search (pair_same, c.count-count.ensures)
      | then-i-j-via-else-i-j+then-count-eq0 w ↦ search (pair_none, c.count-count.ensures)
    ]

pub put_count-requires : goal.put_count-requires
put_count-requires c =
    let a = c.args in
    let count = c.count-count.ensures in
    let room = pair_room a.sheet.now.words a.i a.j _ count a.out.now a.at c.if-i-j.false c.if-count-eq0.false c.requires.2 in
    (c.requires.0, c.requires.1, room)

pub returns : goal.returns
returns c = search (pair_put, c.count-count.ensures)
