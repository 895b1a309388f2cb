-- `vertex_counts::fill_all_counts` meets its contract: the counts from as many vertices of the order as turns were taken are worked out.
-- Assumes nothing.
use Rattle.order.specs.Internal.{vertex_at}
use Rattle.vertex_counts.proofs.FilledLaws.{Filled}
use Rattle.vertex_counts.proofs.fill_all_counts.Given as goal

abbrev pub invariant-loop-v : goal.invariant-loop-v
invariant-loop-v l = Filled l.n l.initial.sheet (vertex_at l.order) 0 l.n l.v-index l.sheet
