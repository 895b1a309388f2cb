-- `edit::rows::mark` meets its contract: a word or the mask, a word and the complement of the mask. Assumes nothing.
use Rattle.edit.proofs.EditedRows.{mark_set, mark_cleared}
use Rattle.edit.proofs.rows.mark.Goals as goal

pub returns-then-inserts : goal.returns-then-inserts
returns-then-inserts c = search mark_set

pub returns : goal.returns
returns c = search mark_cleared
