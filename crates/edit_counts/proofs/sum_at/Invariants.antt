-- `edit_counts::sum_at` meets its contract: the words at the places that are gone from what is left of the mask are added up. Assumes nothing.
use Rattle.std.proofs.Common.{ℕ, length, get_or}
use Rattle.word.proofs.VisitLaws.{Adding}
use Rattle.edit_counts.proofs.sum_at.Given as goal

abbrev pub invariant-loop-k : goal.invariant-loop-k
invariant-loop-k l = Adding (length l.words) l.mask l.k-iterator.rest (λ (k : ℕ). get_or l.words k 0) l.sum
