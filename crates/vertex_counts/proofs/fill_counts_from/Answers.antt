-- `vertex_counts::fill_counts_from` meets its contract: what the recurrence gives is written over the counts from v. Assumes nothing.
use Rattle.std.proofs.Common.{arith}
use Rattle.sheet.proofs.SliceLaws.{over_taken}
use Rattle.vertex_counts.proofs.CountsLaws.{counts_filled}
use Rattle.vertex_counts.proofs.fill_counts_from.Goals as goal

pub returns : goal.returns
returns c =
    let summed = c.sum_successors.ensures in
    counts_filled _ _ _ _ _ _ c.counts_start.ensures summed (over_taken _ _ _ _ _ (omega (arith, summed.long, c.requires.0.high)) c.copy_words.ensures)
