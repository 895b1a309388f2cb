-- `edit::checks::some_of` meets its contract: each place of the mask that is gone from what is left of it fails. Assumes nothing.
use Rattle.edit.proofs.SearchLaws.{Searching}
use Rattle.edit.proofs.checks.some_of.Given as goal

abbrev pub invariant-loop-k : goal.invariant-loop-k
invariant-loop-k g l = Searching l.mask l.k-iterator.rest (goal.F-post g l.test)
