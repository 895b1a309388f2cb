-- `word::Bits::next` meets its contract: what is left once the lowest bit is cleared is less. Assumes nothing.
use Rattle.std.proofs.Common.{◌<◌, rules}
use Rattle.word.proofs.CountLaws.{lowest_cleared_lt}
use Rattle.word.proofs.BitsIterator.next.Goals as goal

pub returns-clause-goes : goal.returns-clause-goes
returns-clause-goes c =
    let less : c.clear_lowest-self.result < c.args.self.now.rest = lowest_cleared_lt _ _ _ c.lowest_bit-place.ensures c.clear_lowest-self.ensures in
    search rules
