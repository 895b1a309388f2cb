-- `query::checks::has_no_vertex` meets its contract: the bytes before the one reached are below n. Assumes nothing.
use Rattle.std.proofs.Common.{ℕ, ◌<◌, get_or}
use Rattle.query.proofs.checks.has_no_vertex.Given as goal

abbrev pub invariant-loop-vertex : goal.invariant-loop-vertex
invariant-loop-vertex l = (t : ℕ) → t < l.vertex-index → get_or l.path t 0 < l.n
