-- `sheet::words::copy_words` meets its contract: the words stand one after the other from base on. Assumes nothing.
use Rattle.std.proofs.Common.{◌≡◌, ℕ, ◌+◌, ◌-◌, List, length, get_or, ap, ◌∙◌, arith, rules}
use Rattle.sheet.proofs.FillLaws.{over_only}
use Rattle.sheet.proofs.SliceLaws.{replaced_long, replaced_in, replaced_out}
use Rattle.sheet.proofs.words.copy_words.Goals as goal

pub returns : goal.returns
returns c =
    let m = length c.args.from.now in
    let k : c.args.base + m - c.args.base ≡ m = omega arith in
    let copied : c.copy_from_slice.new.self ≡ c.args.from.now = search rules in
    let long : length c.copy_from_slice.new.self ≡ m = ap length copied in
    rw k (
    over_only _ _ _ _ _ c.requires (replaced_long _ _ _ _ c.requires long)
    (λ j h. replaced_in _ _ _ _ c.requires long j h ∙ ap (λ (l : List ℕ). get_or l j 0) copied)
    (λ i h. replaced_out _ _ _ _ c.requires long i h)
    )
