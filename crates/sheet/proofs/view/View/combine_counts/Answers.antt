-- `sheet::View::combine_counts` meets its contract: the counts from the lowest vertex that is left are combined. Assumes nothing.
use Rattle.std.proofs.Common.{◌≤◌, ◌+◌, length, ◌∙◌, arith, rules}
use Rattle.sheet.proofs.SliceLaws.{part_long, part_at}
use Rattle.sheet.proofs.WordsLaws.{block_count, summing_start, summing_next, summing_done}
use Rattle.sheet.proofs.view.View.combine_counts.Goals as goal

pub loop-b-init : goal.loop-b-init
loop-b-init g c = search (rules, summing_start g.C.Combine.wraps)

pub loop-b-preserved : goal.loop-b-preserved
loop-b-preserved g c =
    let within : c.counts_start.result + c.args.c + c.args.w ≤ length c.args.self.words.now = omega (arith, c.counts_start.ensures.within, c.args.self.shape.long) in
    summing_next g.C.Combine.wraps _ _ _ _ _ _ _ _ _ _ _ _ _ c.requires.2 c.loop-b.invariant c.in-Some.ensures.steps.0
    (λ j h. part_at _ _ _ within j (omega arith) ∙ block_count _ _ _ _ _ c.counts_start.ensures j)
    (part_long _ _ _ within (omega arith) ∙ omega arith)
    c.combine_words.ensures c.in-Some.ensures.steps.1

pub returns : goal.returns
returns g c = summing_done g.C.Combine.wraps _ _ _ _ _ _ _ _ c.loop-b.invariant c.in-None.ensures.steps.0
