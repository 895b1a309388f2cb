-- `word::wrapping_mul` meets its contract: a mask of 32 bits is a remainder by 2 ^ 32, and a product of halves fits a word. Assumes nothing.
use lib.Bits.{and_mask}
use Rattle.word.proofs.WrapLaws.{product_wraps}
use Rattle.word.proofs.wrapping_mul.Goals as goal

pub returns : goal.returns
returns c =
    product_wraps c.args.a c.args.b _ _ _ _ (and_mask c.args.a 32) (and_mask c.args.b 32) c.wrapping_add-cross.ensures c.wrapping_add.ensures
