-- `edit_counts::EdgesAt::from_factors` meets its contract: after j turns the first j words of u are written, and t is as it was.
-- Assumes nothing.
use Rattle.std.proofs.Common.{◌≡◌, ℕ, get_or}
use Rattle.sheet_theory.specs.Layout.{count_at}
use Rattle.sheet.specs.Fill.{puts}
use Rattle.edit_counts.specs.Internal.{from_factor}
use Rattle.edit_counts.proofs.edges.EdgesAt.from_factors.Given as goal

abbrev pub invariant-loop-j : goal.invariant-loop-j
invariant-loop-j l =
    (l.sums.t ≡ l.initial.sums.t)
    × (l.sums.u
    ≡ puts l.initial.sums.u (λ (k : ℕ). k)
    (λ (k : ℕ). from_factor l.self.inserts (get_or l.sums.t k 0) (count_at l.sheet.n l.sheet.words.now l.self.v k)) l.j)
