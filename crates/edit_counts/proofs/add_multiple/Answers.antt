-- `edit_counts::add_multiple` meets its contract: a turn changes one word more, and a factor of 0 changes none. Assumes nothing.
use Rattle.std.proofs.Common.{arith}
use Rattle.sheet.proofs.FillLaws.{puts_none}
use Rattle.edit_counts.proofs.EditedCounts.{multiple_more, multiple_none}
use Rattle.edit_counts.proofs.add_multiple.Goals as goal

pub returns-then-x-eq0 : goal.returns-then-x-eq0
returns-then-x-eq0 c = multiple_none _ _ _ _ (omega arith) (λ j q. (c.type_inv.words j).fits) c.if-x-eq0.true

pub loop-j-init : goal.loop-j-init
loop-j-init c = puts_none _ _ _

pub loop-j-preserved : goal.loop-j-preserved
loop-j-preserved c = search multiple_more
