-- `sheet::layout::Sheet::new` meets its contract: the array has the words of the greatest sheet. Assumes nothing.
use Rattle.std.proofs.Common.{sym, arith}
use Rattle.sheet_theory.proofs.LayoutLaws.{greatest}
use Rattle.sheet.proofs.layout.Sheet.new.Goals as goal

pub fill_empty-requires : goal.fill_empty-requires
fill_empty-requires c = record { low = omega arith; high = omega arith; long = sym greatest }
