-- `word::clear_bit` meets its contract: the word without bit j has every bit but that one in common with the word. Assumes nothing.
use Rattle.word.proofs.MaskLaws.{one_shl, and_not_pow}
use Rattle.word.proofs.clear_bit.Goals as goal

pub returns : goal.returns
returns c = rw (one_shl c.args.j c.requires) (and_not_pow 64 c.args.row c.args.j c.ranges.row.fits c.requires)
