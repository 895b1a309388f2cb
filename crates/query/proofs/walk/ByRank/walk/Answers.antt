-- `query::walk::ByRank::walk` meets its contract: each way out is a law of AsideLaws. Assumes nothing.
use Rattle.std.proofs.Common.{rules}
use Rattle.query.proofs.AsideLaws.{walking_start, walking_far, walking_ends, walking_stuck, walking_more}
use Rattle.query.proofs.walk.ByRank.walk.Goals as goal

pub loop-init : goal.loop-init
loop-init c = walking_start _ _ _ _ _ _ c.requires.0 c.clear.ensures

pub returns-then-at-self : goal.returns-then-at-self
returns-then-at-self c =
    walking_ends _ _ _ _ _ _ _ _ _ c.loop.invariant c.loop-test.true _ c.push.ensures.items c.if-at-self.true (λ w. w.now) _
    c.as_slice.ensures.value _ c.then_some.ensures

pub returns-in_err-next : goal.returns-in_err-next
returns-in_err-next c =
    let stuck = walking_stuck _ _ _ _ _ _ _ _ _ c.loop.invariant c.loop-test.true _ c.push.ensures.items c.if-at-self.false c.in_err-next.ensures in
    search (rules, stuck)

pub loop-preserved : goal.loop-preserved
loop-preserved c =
    walking_more _ _ _ _ _ _ _ _ _ c.loop.invariant c.loop-test.true _ c.push.ensures.items c.if-at-self.false _ c.in_ok-next.ensures

pub returns : goal.returns
returns c = walking_far _ _ _ _ _ _ _ _ _ c.loop.invariant c.loop-test.false
