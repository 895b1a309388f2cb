-- `count_blocks::Block::holds` meets its contract: the counts from the vertices of the order that were looked at satisfy the recurrence.
-- Assumes nothing.
use Rattle.count_blocks.proofs.BlockLaws.{Compared}
use Rattle.count_blocks.proofs.Block.holds.Given as goal

abbrev pub invariant-loop-i : goal.invariant-loop-i
invariant-loop-i l = Compared l.self.sheet.n l.self.sheet.words.now l.order l.self.to.c l.i-index l.leading
