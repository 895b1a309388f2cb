-- `query::passed::path_rank` meets its contract: each turn is a law of PassedLaws. Assumes nothing.
use Rattle.std.proofs.Common.{inl, inr, ◌<◌, ◌∙◌, ap, sym, drop, length, length-drop, arith}
use Rattle.std.proofs.lemmas.Grind.{common_steps}
use Rattle.std.specs.Iterator.Adapters.{zip_first}
use Rattle.std.specs.Slice.Iter.{iter_rest}
use Rattle.query.proofs.PathLaws.{left_vertices}
use Rattle.query.proofs.PassedLaws.{ranking_empty, ranking_more, ranking_done}
use Rattle.query.proofs.passed.path_rank.Goals as goal

pub returns-in_default : goal.returns-in_default
returns-in_default c = ranking_empty _ _ c.args.path.now (grind (arith, common_steps, c.in_default.ensures.item))

pub loop-here-preserved : goal.loop-here-preserved
loop-here-preserved c =
    let at = c.in-Some-2.ensures.steps in
    let next = sym (ap (drop 1) at.0) ∙ sym c.loop-here.invariant.0 ∙ at.1 in (
      sym (ap (drop 1) next),
      left_vertices _ _ _ _ at.0 c.loop-here.invariant.1,
      ranking_more _ _ _ c.args.path.now _ _ c.loop-here.invariant.2 _ _ _ _ _ _ at.0 next
          (rw (c.from.ensures, c.from-in-loop-here.ensures) at c.pass_over-passed.ensures) c.wrapping_add-sum.ensures,
    )

pub returns : goal.returns
returns c =
    let inv = c.loop-here.invariant in
    let rest = iter_rest (zip_first c.loop-here.here-iterator) in
    let few : length rest < 2
    = elim c.in-None.ensures.steps [ inl a ↦ omega (arith, a.1.0) | inr b ↦ omega (arith, b.1.0, ap length inv.0, length-drop 1 rest) ] in
    ranking_done _ _ _ c.args.path.now _ _ inv.2 few (grind (arith, common_steps, c.in-Some.ensures.item))
