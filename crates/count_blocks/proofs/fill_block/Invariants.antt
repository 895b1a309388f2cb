-- `count_blocks::fill_block` meets its contract: the counts from as many vertices of the order as turns were taken to the columns are
-- worked out. Assumes nothing.
use Rattle.count_blocks.proofs.BlockLaws.{Filling}
use Rattle.count_blocks.proofs.fill_block.Given as goal

abbrev pub invariant-loop-i : goal.invariant-loop-i
invariant-loop-i l = Filling l.n l.initial.sheet l.order l.to.c l.i-index l.leading l.sheet
