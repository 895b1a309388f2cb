-- `order::look_ahead` meets its contract: the last vertex of the stack is below n. Assumes nothing.
use Rattle.order.proofs.StackLaws.{last_below}
use Rattle.order.proofs.look_ahead.Goals as goal

pub row-requires : goal.row-requires
row-requires c = last_below _ _ _ c.requires.0 _ c.requires.1 _ c.in-Some.ensures.value
