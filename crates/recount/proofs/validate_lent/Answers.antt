-- `recount::validate_lent` meets its contract: what has not the shape of a sheet is not valid. Assumes nothing.
use Rattle.std.proofs.Common.{rules}
use Rattle.recount.proofs.ValidateLaws.{validate_refused}
use Rattle.recount.proofs.validate_lent.Goals as goal

pub returns-in_err-sheet : goal.returns-in_err-sheet
returns-in_err-sheet c = validate_refused _ _ _ c.in_err-sheet.field-0.0 (search rules) c.in_err-sheet.ensures.number
