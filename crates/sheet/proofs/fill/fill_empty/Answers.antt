-- `sheet::fill::fill_empty` meets its contract: 1 at each count from a vertex to itself, on words that are 0. Assumes nothing.
use Rattle.std.proofs.Common.{◌≡◌, ℕ, ap, ◌∙◌, replicate, rules}
use Rattle.sheet_theory.specs.Layout.{size}
use Rattle.sheet.proofs.EmptyLaws.{empty_filled}
use Rattle.sheet.proofs.fill.fill_empty.Goals as goal

pub returns : goal.returns
returns c =
    let zeros : c.fill.new.self ≡ replicate (size c.args.n) 0 = c.fill.ensures.after (λ y e. e) ∙ ap (λ (k : ℕ). replicate k 0) c.requires.long in
    search (rules, empty_filled)
