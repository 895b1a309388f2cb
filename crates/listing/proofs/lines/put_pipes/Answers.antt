-- `listing::lines::put_pipes` meets its contract: the label, the number and the line feed are put one after the other. Assumes nothing.
use Rattle.listing_theory.proofs.LineLaws.{pipes_put}
use Rattle.listing.proofs.lines.put_pipes.Goals as goal

pub returns : goal.returns
returns c = search pipes_put
