-- `count_blocks::Block::holds` meets its contract: the counts from every vertex of the order were compared. Assumes nothing.
use Rattle.count_blocks.proofs.BlockLaws.{compared_all}
use Rattle.count_blocks.proofs.Block.holds.Goals as goal

pub returns : goal.returns
returns c = search compared_all
