-- `edit::checks::some_of` meets its contract: a search over the places of the mask. Assumes nothing.
use Rattle.std.proofs.Common.{rules}
use Rattle.edit.proofs.SearchLaws.{searching_more, searching_done}
use Rattle.edit.proofs.checks.some_of.Goals as goal

pub loop-k-preserved : goal.loop-k-preserved
loop-k-preserved g c = searching_more _ (goal.F-post g c.args.test) _ _ c.loop-k.invariant c.in-Some.ensures.steps.0 _ (search rules) c.in-Some.ensures.steps.1

pub returns : goal.returns
returns g c = searching_done _ _ c.ranges.mask.fits _ c.loop-k.invariant c.in-None.ensures.steps.0
