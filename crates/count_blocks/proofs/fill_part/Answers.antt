-- `count_blocks::fill_part` meets its contract: the block that the recurrence gives is written over the counts from i. Assumes nothing.
use Rattle.count_blocks.proofs.BlockLaws.{part_filled}
use Rattle.count_blocks.proofs.fill_part.Goals as goal

pub returns : goal.returns
returns c = search (part_filled, c.counts-t.ensures)
