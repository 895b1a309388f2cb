-- `query::checks::is_broken` meets its contract: whether an edge is missing is left to what is left of the path. Assumes nothing.
use Rattle.std.proofs.Common.{◌≡◌, ◌↔◌, drop}
use Rattle.std.specs.Iterator.Adapters.{zip_first, zip_second}
use Rattle.std.specs.Slice.Iter.{iter_rest}
use Rattle.query_theory.specs.Rank.{Gap}
use Rattle.query.specs.Internal.{Vertices}
use Rattle.query.proofs.checks.is_broken.Given as goal

abbrev pub invariant-loop-here : goal.invariant-loop-here
invariant-loop-here l =
    let rest = iter_rest (zip_first l.here-iterator) in
    (iter_rest (zip_second l.here-iterator) ≡ drop 1 rest) × Vertices l.sheet.n rest × (Gap l.sheet.words.now l.path ↔ Gap l.sheet.words.now rest)
