-- `order::find_order` meets its contract: what is known of the vertices taken away stays known, the stack stays one, and each turn leaves
-- fewer vertices. Assumes nothing.
use Rattle.order.specs.Internal.{Peeled, Stack}
use Rattle.order.proofs.find_order.Given as goal

abbrev pub invariant-loop-left : goal.invariant-loop-left
invariant-loop-left l = (Peeled l.sheet.n l.sheet.words.now l.left l.order.items) × (Stack l.sheet.n l.sheet.words.now l.left l.stack.items)

abbrev pub decreases-loop-left : goal.decreases-loop-left
decreases-loop-left l = l.left
