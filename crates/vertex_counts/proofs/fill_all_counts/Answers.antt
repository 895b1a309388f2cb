-- `vertex_counts::fill_all_counts` meets its contract: with the counts from every vertex all are worked out. Assumes nothing.
use Rattle.std.proofs.Common.{arith}
use Rattle.vertex_counts.proofs.FilledLaws.{filled_all, columns_all}
use Rattle.vertex_counts.proofs.fill_all_counts.Goals as goal

pub returns : goal.returns
returns c =
    let all = filled_all _ _ _ c.requires.1 c.requires.0 0 _ (omega arith) _ _ c.loop-v.invariant c.loop-v-test.false in
    columns_all _ _ _ _ all (omega arith)
