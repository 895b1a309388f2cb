-- `query::passed::pass_over` meets its contract: the counts from the vertices that are gone from what is left of the row are added up. Assumes nothing.
use Rattle.query.proofs.PassedLaws.{Passing}
use Rattle.query.proofs.passed.pass_over.Given as goal

abbrev pub invariant-loop-a : goal.invariant-loop-a
invariant-loop-a l = Passing l.sheet.n l.sheet.words.now l.j l.i l.b l.a-iterator.rest l.sum
