-- `word::highest_bit` meets its contract: the highest bit stands below the zeros that lead. Assumes nothing.
use Rattle.word.proofs.CountLaws.{highest_leading}
use Rattle.word.proofs.highest_bit.Goals as goal

pub returns : goal.returns
returns c = highest_leading c.args.mask c.requires c.ranges.mask.fits
