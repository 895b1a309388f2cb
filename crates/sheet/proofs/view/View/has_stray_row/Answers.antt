-- `sheet::View::has_stray_row` meets its contract: each way out is a law of StrayLaws. Assumes nothing.
use Rattle.std.proofs.Common.{◌<◌, get_or-take, arith}
use Rattle.sheet.proofs.SliceLaws.{rows_taken}
use Rattle.sheet.proofs.StrayLaws.{stray_found, stray_none}
use Rattle.sheet.proofs.view.View.has_stray_row.Goals as goal

pub returns-then-not-within : goal.returns-then-not-within
returns-then-not-within c =
    let v = c.args.self in
    let k = c.loop-row.row-index in
    let below : k < v.n = omega (arith, rows_taken v.shape) in
    stray_found _ _ k _ below (rw (get_or-take v.n v.words.now k 0 below) at c.within.ensures) c.if-not-within.true

pub returns : goal.returns
returns c = stray_none _ _ _ c.loop-row.invariant (omega (arith, rows_taken c.args.self.shape))
