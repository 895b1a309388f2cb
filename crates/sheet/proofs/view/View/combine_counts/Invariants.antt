-- `sheet::View::combine_counts` meets its contract: the counts from the vertices that are gone from what is left of the mask are combined. Assumes nothing.
use Rattle.sheet.proofs.WordsLaws.{Summing}
use Rattle.sheet.proofs.view.View.combine_counts.Given as goal

abbrev pub invariant-loop-b : goal.invariant-loop-b
invariant-loop-b g l = Summing g.C.Combine.op l.self.n l.self.words.now l.c l.w l.mask l.initial.t l.b-iterator.rest l.t
