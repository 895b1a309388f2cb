-- `sheet::View::has_stray_row` meets its contract: the rows before the row looked at have no bit at n or above. Assumes nothing.
use Rattle.std.proofs.Common.{ℕ, ◌^◌, ◌<◌}
use Rattle.sheet_theory.specs.Layout.{row_at}
use Rattle.sheet.proofs.view.View.has_stray_row.Given as goal

abbrev pub invariant-loop-row : goal.invariant-loop-row
invariant-loop-row l = (k : ℕ) → k < l.row-index → row_at l.self.words.now k < 2 ^ l.self.n
