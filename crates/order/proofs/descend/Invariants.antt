-- `order::descend` meets its contract: the stack stays one, and ahead is what is ahead of it. Each turn makes it longer. Assumes nothing.
use Rattle.std.proofs.Common.{◌-◌, length}
use Rattle.order.specs.Internal.{Stack, Ahead}
use Rattle.order.proofs.descend.Given as goal

abbrev pub invariant-loop-ahead : goal.invariant-loop-ahead
invariant-loop-ahead l = (Stack l.sheet.n l.sheet.words.now l.left l.stack.items) × (Ahead l.sheet.words.now l.left l.stack.items l.ahead)

abbrev pub decreases-loop-ahead : goal.decreases-loop-ahead
decreases-loop-ahead l = l.sheet.n - length l.stack.items
