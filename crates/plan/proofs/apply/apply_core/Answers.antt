-- `plan::apply::apply_core` meets its contract: the records are applied, or the words kept aside are put back. Assumes nothing.
use Rattle.std.proofs.Common.{length-take-le, arith, sym, ap, ◌∙◌}
use Rattle.answer.specs.Answers.{number_at}
use Rattle.sheet_theory.proofs.LayoutLaws.{greatest}
use Rattle.sheet.proofs.SliceLaws.{over_taken}
use Rattle.plan.proofs.ApplyLaws.{sheet_long, all_refused, all_accepted}
use Rattle.plan.proofs.apply.apply_core.Goals as goal

pub copy_words-requires : goal.copy_words-requires
copy_words-requires c = omega (arith, sheet_long _ _ c.requires.0, greatest)

pub slice_bounds-kept-end : goal.slice_bounds-kept-end
slice_bounds-kept-end c = omega (arith, c.requires.0.long, c.word_count-words.ensures, sheet_long _ _ c.requires.0, greatest)

pub slice_bounds-copy_words-end-in-Err : goal.slice_bounds-copy_words-end-in-Err
slice_bounds-copy_words-end-in-Err c =
    sym (length-take-le _ _ (omega (arith, c.requires.0.long, c.word_count-words.ensures, sheet_long _ _ c.requires.0, greatest)))

pub returns-in-Err : goal.returns-in-Err
returns-in-Err c =
    let a = c.args in
    let words = c.word_count-words.ensures ∙ sym c.requires.0.long in
    let small = rw greatest at (sheet_long a.n a.sheet.now c.requires.0) in
    all_refused a.n a.sheet.now a.plan.now _ _ c.apply.ensures _ c.in-Err.is _ _ _ _
    words small c.copy_words.ensures (omega arith) (over_taken _ _ _ _ _ (omega (arith, words, small)) c.copy_words-in-Err.ensures)

pub returns : goal.returns
returns c =
    let a = c.args in
    all_accepted a.n a.sheet.now a.plan.now _ _ c.apply.ensures (ap number_at c.in_default.is) _ c.set_bits.ensures
