-- `vertex_counts::same_words` meets its contract: the difference is 0 exactly if the words yielded so far agree. Assumes nothing.
use Rattle.std.proofs.Common.{nat_eq, length}
use Rattle.answer.specs.Table.{Reflects}
use Rattle.vertex_counts.specs.Internal.{SameWords}
use Rattle.vertex_counts.proofs.same_words.Given as goal

abbrev pub invariant-loop-x : goal.invariant-loop-x
invariant-loop-x l = Reflects (nat_eq l.difference 0) (SameWords (length l.yielded) l.words l.t)
