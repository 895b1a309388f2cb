-- `word::lowest_bit` meets its contract: the lowest bit stands above the zeros that trail. Assumes nothing.
use Rattle.word.proofs.CountLaws.{lowest_trailing}
use Rattle.word.proofs.lowest_bit.Goals as goal

pub returns : goal.returns
returns c = lowest_trailing c.args.mask c.requires c.ranges.mask.fits
