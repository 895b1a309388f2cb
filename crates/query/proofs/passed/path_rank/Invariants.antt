-- `query::passed::path_rank` meets its contract: the sum so far and the counts passed over on what is left of the path make the rank.
-- Assumes nothing.
use Rattle.std.proofs.Common.{◌≡◌, drop}
use Rattle.std.specs.Iterator.Adapters.{zip_first, zip_second}
use Rattle.std.specs.Slice.Iter.{iter_rest}
use Rattle.query.specs.Internal.{Vertices}
use Rattle.query.proofs.PassedLaws.{Ranking}
use Rattle.query.proofs.passed.path_rank.Given as goal

abbrev pub invariant-loop-here : goal.invariant-loop-here
invariant-loop-here l =
    let rest = iter_rest (zip_first l.here-iterator) in
    (iter_rest (zip_second l.here-iterator) ≡ drop 1 rest) × Vertices l.sheet.n rest × Ranking l.sheet.n l.sheet.words.now l.end l.path rest l.sum
