-- `count_blocks::Block::part_holds` meets its contract: nothing is left of the counts from i exactly if they are the block that the
-- recurrence gives. Assumes nothing.
use Rattle.std.proofs.Common.{◌+◌, ◌≤◌, length, ◌∙◌, arith}
use Rattle.sheet.proofs.SliceLaws.{part_at}
use Rattle.count_blocks.proofs.BlockLaws.{part_same}
use Rattle.count_blocks.proofs.Block.part_holds.Goals as goal

pub returns : goal.returns
returns c =
    let a = c.args in
    let of = c.counts_from.ensures in
    let within : a.self.to.c + 16 ≤ length c.counts_from.result.now = omega (arith, of.long, a.self.within) in
    part_same a.self.sheet.n a.self.sheet.words.now a.i a.self.to.c a.mask _ _ _
    (λ j h. c.block_of-t.ensures j h ∙ part_at _ _ _ within j (omega arith) ∙ of.counts (a.self.to.c + j) (omega (arith, a.self.within)))
    c.combine_own.ensures c.combine_counts.ensures _ _ (omega (arith, c.combine_counts.ensures.long, c.combine_own.ensures.long)) c.same_words.ensures
