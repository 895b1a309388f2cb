-- `word::count_bits` meets its contract: the bits that are counted are those added up. Assumes nothing.
use Rattle.std.proofs.Common.{rules}
use Rattle.word.proofs.CountLaws.{bit_count_ones}
use Rattle.word.proofs.count_bits.Goals as goal

pub returns : goal.returns
returns c = search (rules, bit_count_ones)
