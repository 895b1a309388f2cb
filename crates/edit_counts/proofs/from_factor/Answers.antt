-- `edit_counts::from_factor` meets its contract, for an insertion and for a deletion. Assumes nothing.
use Rattle.edit_counts.proofs.FactorLaws.{from_insert, from_delete}
use Rattle.edit_counts.proofs.from_factor.Goals as goal

pub returns-then-inserts : goal.returns-then-inserts
returns-then-inserts c = search from_insert

pub returns : goal.returns
returns c = search from_delete
