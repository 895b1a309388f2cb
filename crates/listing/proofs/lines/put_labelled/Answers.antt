-- `listing::lines::put_labelled` meets its contract: a label and a decimal are put one after the other. Assumes nothing.
use Rattle.listing_theory.proofs.LineLaws.{labelled_put}
use Rattle.listing.proofs.lines.put_labelled.Goals as goal

pub returns : goal.returns
returns c = search labelled_put
