-- `edit_counts::EdgesAt::masks` meets its contract: each way out is a law of EdgesLaws. Assumes nothing.
use Rattle.edit_counts.proofs.EdgesLaws.{masks_predecessors, masks_successors, masks_good}
use Rattle.edit_counts.proofs.edges.EdgesAt.masks.Goals.{then-not-within-via-then-not-within, then-not-within-via-else-not-within+then-not-within-2}
use Rattle.edit_counts.proofs.edges.EdgesAt.masks.Goals as goal

pub returns-then-not-within-clause-number : goal.returns-then-not-within-clause-number
returns-then-not-within-clause-number c =
    elim c.then-not-within.branch [
      | then-not-within-via-then-not-within w ↦ search masks_predecessors
      | then-not-within-via-else-not-within+then-not-within-2 w ↦ search masks_successors
    ]

pub returns-clause-number : goal.returns-clause-number
returns-clause-number c = search masks_good
