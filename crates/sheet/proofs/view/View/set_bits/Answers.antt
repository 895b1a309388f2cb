-- `sheet::View::set_bits` meets its contract: the total of a sheet fits a word. Assumes nothing.
use Rattle.std.proofs.Common.{ℕ, ap, ◌∙◌, get_or-take, arith}
use Rattle.word.proofs.CountLaws.{bit_count_le}
use Rattle.sheet_theory.specs.Layout.{set_bits, row_at}
use Rattle.sheet_theory.proofs.SetBitsLaws.{set_bits_zero, set_bits_more, set_bits_le}
use Rattle.sheet.proofs.SliceLaws.{rows_taken}
use Rattle.sheet.proofs.view.View.set_bits.Goals as goal

pub loop-row-init : goal.loop-row-init
loop-row-init c = set_bits_zero _

pub overflow_add-total : goal.overflow_add-total
overflow_add-total c =
    let v = c.args.self in
    let k = c.loop-row.row-index in
    let e = get_or-take v.n v.words.now k 0 (omega (arith, rows_taken v.shape)) in
    omega (arith, set_bits_le v.words.now k, bit_count_le (row_at v.words.now k), rw e at c.count_bits-total.ensures, rows_taken v.shape, v.shape)

pub loop-row-preserved : goal.loop-row-preserved
loop-row-preserved c =
    let v = c.args.self in
    let e = get_or-take v.n v.words.now c.loop-row.row-index 0 (omega (arith, rows_taken v.shape)) in
    set_bits_more _ _ _ _ c.loop-row.invariant (rw e at c.count_bits-total.ensures)

pub returns : goal.returns
returns c =
    let v = c.args.self in
    c.loop-row.invariant ∙ ap (λ (k : ℕ). set_bits k v.words.now) (omega (arith, rows_taken v.shape))
