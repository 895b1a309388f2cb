-- `query::walk::ByRank::walk` meets its contract: the vertices kept and the walk from the vertex reached make the walk. Assumes nothing.
use Rattle.query.proofs.AsideLaws.{Walking}
use Rattle.query.proofs.walk.ByRank.walk.Given as goal

abbrev pub invariant-loop : goal.invariant-loop
invariant-loop l = Walking l.sheet.n l.sheet.words.now l.self.from l.self.to l.self.k l.at l.left l.counter l.path.items
