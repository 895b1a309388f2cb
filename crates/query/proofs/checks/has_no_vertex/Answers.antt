-- `query::checks::has_no_vertex` meets its contract: SomeNoVertex by places. Assumes nothing.
use Rattle.std.proofs.Common.{arith}
use Rattle.answer.proofs.TableLaws.{reflects_true, reflects_none}
use Rattle.query_theory.proofs.ByPlace.{some_no_vertex_places}
use Rattle.query.proofs.checks.has_no_vertex.Goals as goal

pub returns-then-n-from : goal.returns-then-n-from
returns-then-n-from c = reflects_true ((some_no_vertex_places c.args.n c.args.path.now).1 (c.loop-vertex.vertex-index, omega arith, omega arith))

pub returns : goal.returns
returns c =
    reflects_none (λ q. let at = (some_no_vertex_places c.args.n c.args.path.now).0 q in omega (arith, at.2, c.loop-vertex.invariant at.0 (omega (arith, at.1))))
