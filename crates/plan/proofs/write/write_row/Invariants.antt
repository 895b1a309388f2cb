-- `plan::write::write_row` meets its contract: the edges whose bits are gone from what is left of the row are put. Assumes nothing.
use Rattle.sheet_theory.specs.Lent.{lent}
use Rattle.plan.proofs.WriteLaws.{Writing}
use Rattle.plan.proofs.write.write_row.Given as goal

abbrev pub invariant-loop-j : goal.invariant-loop-j
invariant-loop-j l = Writing l.sheet.n (lent l.sheet.words.now) l.i l.initial.plan l.at l.j-iterator.rest l.plan l.place
