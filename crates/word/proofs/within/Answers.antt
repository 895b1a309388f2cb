-- `word::within` meets its contract: nothing is left of a word shifted by n if and only if it is below 2 ^ n. Assumes nothing.
use Rattle.std.proofs.Common.{rules}
use Rattle.word.proofs.MaskLaws.{shr_none, word_below}
use Rattle.word.proofs.within.Goals as goal

pub returns-then-n-ge-BITS : goal.returns-then-n-ge-BITS
returns-then-n-ge-BITS c = search (rules, word_below)

pub returns-else-n-ge-BITS : goal.returns-else-n-ge-BITS
returns-else-n-ge-BITS c = shr_none c.args.n c.args.row
