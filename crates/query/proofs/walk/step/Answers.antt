-- `query::walk::step` meets its contract: the lowest edge that is left is tried. Assumes nothing.
use Rattle.std.proofs.Common.{refl, rules}
use Rattle.query.proofs.StepLaws.{trying_start, trying_goes, trying_more, trying_passes}
use Rattle.query.proofs.walk.step.Goals as goal

pub loop-b-init : goal.loop-b-init
loop-b-init c = search (rules, trying_start)

pub returns-then-left-count : goal.returns-then-left-count
returns-then-left-count c =
    trying_goes _ _ _ _ _ _ _ c.loop-b.invariant _ _ c.in-Some.ensures.steps.0 c.count-count.ensures c.if-left-count.true

pub loop-b-preserved : goal.loop-b-preserved
loop-b-preserved c =
    trying_more _ _ _ _ _ _ _ c.loop-b.invariant _ _ c.in-Some.ensures.steps.0 c.count-count.ensures c.if-left-count.false _ _ c.in-Some.ensures.steps.1 refl

pub returns : goal.returns
returns c = trying_passes _ _ _ _ _ _ _ c.loop-b.invariant c.in-None.ensures.steps.0
