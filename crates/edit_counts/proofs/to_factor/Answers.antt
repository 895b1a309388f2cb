-- `edit_counts::to_factor` meets its contract, for an insertion and for a deletion. Assumes nothing.
use Rattle.edit_counts.proofs.FactorLaws.{to_insert, to_delete}
use Rattle.edit_counts.proofs.to_factor.Goals as goal

pub returns-then-inserts : goal.returns-then-inserts
returns-then-inserts c = search to_insert

pub returns : goal.returns
returns c = search to_delete
