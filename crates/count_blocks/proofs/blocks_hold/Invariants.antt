-- `count_blocks::blocks_hold` meets its contract: the counts to the columns below c satisfy the recurrence. The columns that are left fall by
-- a block with each turn. Assumes nothing.
use Rattle.std.proofs.Common.{◌+◌, ◌-◌}
use Rattle.count_blocks.proofs.BlockLaws.{Held}
use Rattle.count_blocks.proofs.blocks_hold.Given as goal

abbrev pub invariant-loop-c : goal.invariant-loop-c
invariant-loop-c l = Held l.sheet.n l.sheet.words.now l.c

abbrev pub decreases-loop-c : goal.decreases-loop-c
decreases-loop-c l = l.sheet.n + 16 - l.c
