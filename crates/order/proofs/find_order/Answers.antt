-- `order::find_order` meets its contract: each turn takes away the last vertex of the stack. Assumes nothing.
use Rattle.order.proofs.OrderLaws.{order_laws}
use Rattle.order.proofs.find_order.Goals as goal

pub loop-left-init : goal.loop-left-init
loop-left-init c = search order_laws

pub loop-left-preserved : goal.loop-left-preserved
loop-left-preserved c = search (order_laws, c.in_ok-last.ensures)

pub returns : goal.returns
returns c = rw c.as_slice.ensures.value (search order_laws)
