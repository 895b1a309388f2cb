-- `word::set_bit` meets its contract: bit j is added where it was not set. Assumes nothing.
use Rattle.word.proofs.MaskLaws.{one_shl, or_pow}
use Rattle.word.proofs.set_bit.Goals as goal

pub returns : goal.returns
returns c = rw (one_shl c.args.j c.requires) (or_pow c.args.row c.args.j)
