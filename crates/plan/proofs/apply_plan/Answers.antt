-- `plan::apply_plan` meets its contract: what is refused before the first record names none. Assumes nothing.
use Rattle.std.proofs.Common.{rules}
use Rattle.plan.proofs.CallLaws.{read_stops}
use Rattle.plan.proofs.apply_plan.Goals as goal

pub returns-in_err-check_plan : goal.returns-in_err-check_plan
returns-in_err-check_plan c = read_stops _ _ _ _ c.in_err-check_plan.field-0.0 (search rules) c.in_err-check_plan.ensures
