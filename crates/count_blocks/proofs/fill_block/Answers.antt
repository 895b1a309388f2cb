-- `count_blocks::fill_block` meets its contract: the counts from the vertex at the next place of the order are worked out. Assumes nothing.
use Rattle.count_blocks.proofs.BlockLaws.{filling_row, filling_more, filling_all}
use Rattle.count_blocks.proofs.fill_block.Goals as goal

pub bounds-sheet-i : goal.bounds-sheet-i
bounds-sheet-i c = search filling_row

pub loop-i-preserved : goal.loop-i-preserved
loop-i-preserved c = search filling_more

pub returns : goal.returns
returns c = search filling_all
