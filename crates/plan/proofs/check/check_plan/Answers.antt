-- `plan::check::check_plan` meets its contract: a sheet that is not refused by 1 or 2 has the shape. Assumes nothing.
use Rattle.std.proofs.Common.{[]}
use Rattle.sheet_theory.specs.Lent.{lent}
use Rattle.sheet_theory.proofs.ShapeLaws.{accepted_shape}
use Rattle.plan.proofs.check.check_plan.Goals as goal

pub invariant_of-lent : goal.invariant_of-lent
invariant_of-lent c = record { shape = accepted_shape c.args.n (lent c.args.sheet.now) [] c.in_ok-altering.ensures }
