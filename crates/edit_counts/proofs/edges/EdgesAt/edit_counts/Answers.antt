-- `edit_counts::EdgesAt::edit_counts` meets its contract, by those of its parts. Assumes nothing.
use Rattle.sheet.proofs.WordsLaws.{counts_summed}
use Rattle.edit_counts.proofs.EditedCounts.{counts_edited_lem}
use Rattle.edit_counts.proofs.edges.EdgesAt.edit_counts.Goals as goal

pub returns : goal.returns
returns c =
    let sums = counts_summed _ c.args.sheet.now _ _ c.requires.high c.combine_counts.ensures in
    counts_edited_lem _ _ _ _ _ _ _ _ c.requires sums (rw c.from_factors.ensures.t at c.edit_all.ensures)
