-- `edit_counts::EdgesAt::edge` meets its contract: the end is the one successor, as a mask. Assumes nothing.
use Rattle.std.proofs.Common.{pow_pos, arith}
use Rattle.edit_counts.proofs.EdgesLaws.{one_fits}
use Rattle.edit_counts.proofs.edges.EdgesAt.edge.Goals as goal

pub invariant_of-result : goal.invariant_of-result
invariant_of-result c = record { vertex_fits = omega arith; predecessors_fit = pow_pos c.args.n; successors_fit = one_fits _ _ (omega arith) (omega arith) }
