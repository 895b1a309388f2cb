-- `count_blocks::Block::combine_own` meets its contract: if i is a column of the block, the window of `unit_words` has its 1 at the place of i.
-- Assumes nothing.
use Rattle.std.proofs.Common.{◌+◌, ◌-◌, ◌≤◌, length, ◌∙◌, arith}
use Rattle.sheet.proofs.SliceLaws.{part_long, part_at}
use Rattle.count_blocks.proofs.BlockLaws.{own_out, own_in}
use Rattle.count_blocks.proofs.Block.combine_own.Goals as goal

pub returns-in-Some : goal.returns-in-Some
returns-in-Some g c =
    let p = c.in-Some.place in
    let a = c.args in
    let within : 16 - p + 16 ≤ length a.self.to.unit.now = omega (arith, a.self.to.made.long, c.in-Some.ensures.0) in
    own_in g.C.Combine.op a.i a.self.to.c _ c.told-t c.fits-t a.self.to.unit.now _ _ p a.self.to.made c.in-Some.ensures.1 c.in-Some.ensures.0
    (part_long _ _ _ within (omega arith) ∙ omega arith) (λ j h. part_at _ _ _ within j (omega arith)) c.combine_words.ensures

pub returns-in_default : goal.returns-in_default
returns-in_default g c = own_out g.C.Combine.op _ _ _ c.told-t c.fits-t g.C.Combine.wraps c.in_default.ensures
