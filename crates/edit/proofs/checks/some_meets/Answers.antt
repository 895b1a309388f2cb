-- `edit::checks::some_meets` meets its contract: each place of the mask `starts` is a vertex, and the test is `meets`. Assumes nothing.
use Rattle.std.proofs.Common.{rules}
use Rattle.edit.specs.Internal.{Meets}
use Rattle.edit.proofs.SearchLaws.{tells_some}
use Rattle.edit.proofs.checks.some_meets.Goals as goal

pub returns : goal.returns
returns c =
    tells_some _ _ _ (Meets c.args.sheet.n c.args.sheet.words.now c.args.ends) c.requires.0 (λ k within t says. search rules) _ c.some_of.ensures
