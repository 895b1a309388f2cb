-- `edit::write_edit` meets its contract: the way out is a law of EditLaws. Assumes nothing.
use Rattle.edit.proofs.EditLaws.{edit_written}
use Rattle.edit.proofs.write_edit.Goals as goal

pub returns : goal.returns
returns c = search edit_written
