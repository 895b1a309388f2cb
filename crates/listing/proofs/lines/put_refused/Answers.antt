-- `listing::lines::put_refused` meets its contract: both labels, both numbers and the line feed are put one after the other. Assumes nothing.
use Rattle.listing_theory.proofs.LineLaws.{refused_put}
use Rattle.listing.proofs.lines.put_refused.Goals as goal

pub returns : goal.returns
returns c =
    let second = rw c.number.ensures at c.put_labelled-second.ensures in
    search (refused_put, second)
