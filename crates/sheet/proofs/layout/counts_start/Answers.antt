-- `sheet::layout::counts_start` meets its contract: the counts from a vertex are within a sheet. Assumes nothing.
use Rattle.std.proofs.Common.{refl, arith}
use Rattle.sheet_theory.proofs.LayoutLaws.{from_within, counts_le, row_counts}
use Rattle.sheet.proofs.layout.counts_start.Goals as goal

pub overflow_add-result : goal.overflow_add-result
overflow_add-result c = record { fits = omega (arith, counts_le _ c.requires.0, row_counts _ _ c.requires.1) }

pub returns : goal.returns
returns c =
    record {
      is = refl;
      within = from_within _ _ c.requires.1;
      small = omega (arith, counts_le _ c.requires.0, row_counts _ _ c.requires.1);
    }
