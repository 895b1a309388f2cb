-- `count_blocks::fill_blocks` meets its contract: the counts to the columns of one block more are worked out. Assumes nothing.
use Rattle.std.proofs.Common.{arith}
use Rattle.vertex_counts.proofs.FilledLaws.{columns_more, columns_all}
use Rattle.count_blocks.proofs.fill_blocks.Goals as goal

pub loop-c-preserved : goal.loop-c-preserved
loop-c-preserved c = search (columns_more, c.block_at.ensures.holds)

pub returns : goal.returns
returns c = search columns_all

pub returns-2 : goal.returns-2
returns-2 c = columns_all _ _ _ _ (columns_more _ _ _ _ _ _ 16 c.loop-c.invariant c.fill_block.ensures c.block_at.ensures.low c.block_at.ensures.holds) (omega arith)
