-- `plan::write_edges` meets its contract: there is room for the records of a valid sheet. Assumes nothing.
use Rattle.std.proofs.Common.{arith}
use Rattle.sheet_theory.specs.Lent.{lent}
use Rattle.sheet_theory.specs.Valid.{Valid}
use Rattle.plan.proofs.CallLaws.{check_passed, write_few, write_fits, write_whole}
use Rattle.plan.proofs.write_edges.Goals as goal

pub overflow_mul-bytes : goal.overflow_mul-bytes
overflow_mul-bytes c =
    let sheet = c.in_ok-sheet.sheet in
    let valid : Valid sheet.n (lent sheet.words.now) = check_passed _ _ sheet.shape c.in_ok-check_valid.ensures in
    omega (arith, write_few _ _ c.args.plan.now valid _ c.set_bits.ensures)

pub write_rows-requires : goal.write_rows-requires
write_rows-requires c =
    let sheet = c.in_ok-sheet.sheet in
    let valid : Valid sheet.n (lent sheet.words.now) = check_passed _ _ sheet.shape c.in_ok-check_valid.ensures in
    write_fits _ _ c.args.plan.now valid _ c.set_bits.ensures (omega arith)

pub returns : goal.returns
returns c =
    let sheet = c.in_ok-sheet.sheet in
    let valid : Valid sheet.n (lent sheet.words.now) = check_passed _ _ sheet.shape c.in_ok-check_valid.ensures in
    rw (c.in_ok-sheet.ensures.view.0, c.in_ok-sheet.ensures.view.1) at
    (write_whole _ _ c.args.plan.now valid _ c.set_bits.ensures (omega arith) _ c.write_rows.ensures)
