-- `query::walk::step` meets its contract: what is left of the row are the edges not yet tried. Assumes nothing.
use Rattle.query.proofs.StepLaws.{Trying}
use Rattle.query.proofs.walk.step.Given as goal

abbrev pub invariant-loop-b : goal.invariant-loop-b
invariant-loop-b l = Trying l.sheet.n l.sheet.words.now l.to l.i l.k l.b-iterator.rest l.left
