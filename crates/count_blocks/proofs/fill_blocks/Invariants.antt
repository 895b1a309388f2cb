-- `count_blocks::fill_blocks` meets its contract: the counts to the columns below c are worked out. The columns that are left fall by a
-- block with each turn. Assumes nothing.
use Rattle.std.proofs.Common.{◌+◌, ◌-◌}
use Rattle.vertex_counts.specs.Internal.{ColumnsFilled}
use Rattle.count_blocks.proofs.fill_blocks.Given as goal

abbrev pub invariant-loop-c : goal.invariant-loop-c
invariant-loop-c l = ColumnsFilled l.n l.initial.sheet 0 l.c l.sheet

abbrev pub decreases-loop-c : goal.decreases-loop-c
decreases-loop-c l = l.n + 16 - l.c
