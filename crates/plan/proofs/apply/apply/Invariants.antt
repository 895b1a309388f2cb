-- The loop of `plan::apply::apply`: the records that the reader has given are applied.
use Rattle.sheet_theory.specs.Lent.{lent}
use Rattle.record.specs.Reader.{records_left}
use Rattle.plan.proofs.ApplyLaws.{Applying}
use Rattle.plan.proofs.apply.apply.Given as goal

abbrev pub invariant-loop-k : goal.invariant-loop-k
invariant-loop-k l =
    Applying l.n (lent l.initial.sheet) l.plan (records_left l.k-iterator.iter) l.k-iterator.count (lent l.sheet)
