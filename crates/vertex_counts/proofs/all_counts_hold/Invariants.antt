-- `vertex_counts::all_counts_hold` meets its contract: the counts from each vertex below i satisfy the recurrence. Assumes nothing.
use Rattle.std.proofs.Common.{ℕ, ◌<◌}
use Rattle.sheet_theory.specs.Internal.{CountsHold}
use Rattle.vertex_counts.proofs.all_counts_hold.Given as goal

abbrev pub invariant-loop-i : goal.invariant-loop-i
invariant-loop-i l = (k : ℕ) → k < l.i → CountsHold l.sheet.n l.sheet.words.now k
