-- `sheet::View::set_bits` meets its contract: after i turns the total is the number of set bits of the first i rows. Assumes nothing.
use Rattle.std.proofs.Common.{◌≡◌}
use Rattle.sheet_theory.specs.Layout.{set_bits}
use Rattle.sheet.proofs.view.View.set_bits.Given as goal

abbrev pub invariant-loop-row : goal.invariant-loop-row
invariant-loop-row l = l.total ≡ set_bits l.row-index l.self.words.now
