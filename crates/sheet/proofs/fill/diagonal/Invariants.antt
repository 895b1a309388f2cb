-- `sheet::fill::diagonal` meets its contract: after i turns the first i counts from a vertex to itself are 1. Assumes nothing.
use Rattle.std.proofs.Common.{◌≡◌, ℕ}
use Rattle.sheet.specs.Fill.{puts}
use Rattle.sheet.specs.Internal.{diagonal_at}
use Rattle.sheet.proofs.fill.diagonal.Given as goal

abbrev pub invariant-loop-i : goal.invariant-loop-i
invariant-loop-i l = l.sheet ≡ puts l.initial.sheet (diagonal_at l.n) (λ (j : ℕ). 1) l.i
