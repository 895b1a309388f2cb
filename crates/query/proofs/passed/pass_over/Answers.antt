-- `query::passed::pass_over` meets its contract: the count from the lowest vertex that is left is added. Assumes nothing.
use Rattle.std.proofs.Common.{rules}
use Rattle.query.proofs.PassedLaws.{passing_start, passing_more, passing_done}
use Rattle.query.proofs.passed.pass_over.Goals as goal

pub loop-a-init : goal.loop-a-init
loop-a-init c = search (rules, passing_start)

pub loop-a-preserved : goal.loop-a-preserved
loop-a-preserved c = search (rules, passing_more)

pub returns : goal.returns
returns c = passing_done _ _ _ _ _ _ _ c.loop-a.invariant c.in-None.ensures.steps.0
