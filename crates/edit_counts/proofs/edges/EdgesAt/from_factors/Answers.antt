-- `edit_counts::EdgesAt::from_factors` meets its contract: a turn writes one word of u more, and none of t. Assumes nothing.
use Rattle.std.proofs.Common.{refl, ap, ◌∙◌, arith}
use Rattle.sheet.proofs.FillLaws.{puts_none, puts_more}
use Rattle.edit_counts.specs.Internal.{from_factor}
use Rattle.edit_counts.proofs.EditedCounts.{factors_all}
use Rattle.edit_counts.proofs.edges.EdgesAt.from_factors.Goals as goal

pub loop-j-init : goal.loop-j-init
loop-j-init c = (refl, puts_none _ _ _)

pub loop-j-preserved : goal.loop-j-preserved
loop-j-preserved c =
    let count = c.counts_from-y-items.ensures.counts c.loop-j.j (omega (arith, c.counts_from-y-items.ensures.long)) in
    (c.loop-j.invariant.0, puts_more _ _ _ _ _ _ _ c.loop-j.invariant.1 refl (c.from_factor.ensures ∙ ap (from_factor c.args.self.inserts _) count))

pub returns : goal.returns
returns c = record {
  t = c.loop-j.invariant.0;
  u = factors_all _ _ _ _ _ _ _ _ _ (omega arith) c.loop-j.invariant.1 (omega (arith, c.counts_from-y-items.ensures.long));
}
