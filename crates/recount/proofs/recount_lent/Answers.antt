-- `recount::recount_lent` meets its contract: a sheet that is not refused by 1 or 2 has the shape. Assumes nothing.
use Rattle.std.proofs.Common.{[]}
use Rattle.sheet_theory.specs.Lent.{lent}
use Rattle.sheet_theory.proofs.ShapeLaws.{accepted_shape}
use Rattle.recount.proofs.recount_lent.Goals as goal

pub recount_core-requires : goal.recount_core-requires
recount_core-requires c = accepted_shape c.args.n (lent c.args.sheet.now) [] c.in_ok-altering.ensures
