-- `listing::list` meets its contract: both parts are laws of the listing. Assumes nothing.
use Rattle.listing_theory.proofs.ListingLaws.{list_count, list_bytes}
use Rattle.listing.proofs.list.Goals as goal

pub returns : goal.returns
returns c = search (list_count, list_bytes)
