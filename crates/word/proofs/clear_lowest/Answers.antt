-- `word::clear_lowest` meets its contract: a word and the word before it have the bits in common that stand above its lowest. Assumes nothing.
use Rattle.word.proofs.MaskLaws.{and_lowest}
use Rattle.word.proofs.clear_lowest.Goals as goal

pub returns : goal.returns
returns c = λ k l. and_lowest c.args.mask k l
