-- `listing::lines::put_count` meets its contract: both vertices, the count and the line feed are put one after the other. Assumes nothing.
use Rattle.listing_theory.proofs.LineLaws.{count_put}
use Rattle.listing.proofs.lines.put_count.Goals as goal

pub returns : goal.returns
returns c = search count_put
