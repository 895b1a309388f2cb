-- `edit_counts::EdgesAt::edit_all` meets its contract: after i turns the counts from the first i vertices are as the edit leaves them, and
-- the counts from the others are as they were. Assumes nothing.
use Rattle.edit_counts.proofs.EditedCounts.{Editing}
use Rattle.edit_counts.proofs.edges.EdgesAt.edit_all.Given as goal

abbrev pub invariant-loop-i : goal.invariant-loop-i
invariant-loop-i l = Editing l.self.inserts l.self.n l.initial.sheet l.self.v l.self.predecessors l.sums.t l.i l.sheet
