-- `query::checks::is_broken` meets its contract: a turn takes the first vertex from what is left. Assumes nothing.
use Rattle.std.proofs.Common.{◌∙◌, ap, sym, drop, rules}
use Rattle.query.proofs.PathLaws.{left_vertices}
use Rattle.query.proofs.checks.is_broken.Goals as goal

pub loop-here-preserved : goal.loop-here-preserved
loop-here-preserved c =
    let at = c.in-Some.ensures.steps in
    let next = sym (ap (drop 1) at.0) ∙ sym c.loop-here.invariant.0 ∙ at.1 in (
      sym (ap (drop 1) next),
      left_vertices _ _ _ _ at.0 c.loop-here.invariant.1,
      search rules,
    )
