-- `edit_counts::add_multiple` meets its contract: after j turns the multiple is added to the first j words. Assumes nothing.
use Rattle.std.proofs.Common.{◌≡◌}
use Rattle.edit_counts.specs.Internal.{with_multiple}
use Rattle.edit_counts.proofs.add_multiple.Given as goal

abbrev pub invariant-loop-j : goal.invariant-loop-j
invariant-loop-j l = l.words ≡ with_multiple l.j l.initial.words l.x l.t
