-- `edit_counts::sum_at` meets its contract: a turn adds the word at the lowest place that is left. Assumes nothing.
use Rattle.std.proofs.Common.{rules}
use Rattle.word.proofs.VisitLaws.{adding_start, adding_more, adding_done}
use Rattle.edit_counts.proofs.sum_at.Goals as goal

pub loop-k-init : goal.loop-k-init
loop-k-init c = search (rules, adding_start)

pub loop-k-preserved : goal.loop-k-preserved
loop-k-preserved c = adding_more _ _ _ _ _ _ _ _ c.loop-k.invariant c.in-Some.ensures.steps.0 c.wrapping_add-sum.ensures c.in-Some.ensures.steps.1

pub returns : goal.returns
returns c = adding_done _ _ _ _ _ c.loop-k.invariant c.in-None.ensures.steps.0
