-- `vertex_counts::same_words` meets its contract: a turn compares one word more. Assumes nothing.
use Rattle.std.proofs.Common.{length-append, rules}
use Rattle.std.proofs.lemmas.Slice.Zip.{zip_turn}
use Rattle.vertex_counts.proofs.CountsLaws.{same_more}
use Rattle.vertex_counts.proofs.same_words.Goals as goal

pub loop-x-preserved : goal.loop-x-preserved
loop-x-preserved c =
    let x = c.loop-x in
    let at = zip_turn c.args.words.now c.args.t.now x.yielded _ _ c.next.new.self _ (search rules) (search rules) x.yielded_by _
    c.in-Some.is c.next.ensures.steps in
    rw (at.2 0, at.3 0, length-append x.yielded) (same_more _ _ _ _ x.invariant)
