-- `edit::checks::Asked::some_into` meets its contract: each predecessor is a vertex, and the test is a law of CheckLaws. Assumes nothing.
use Rattle.std.proofs.Common.{◌≡◌, ◌<◌, ◌^◌, rules}
use Rattle.sheet_theory.specs.Layout.{edge_at}
use Rattle.edit_theory.specs.Edit.{one_if}
use Rattle.edit.proofs.SearchLaws.{tells_some}
use Rattle.edit.proofs.CheckLaws.{refused_test}
use Rattle.edit.proofs.checks.Asked.some_into.Goals as goal

pub returns : goal.returns
returns c =
    let fits : c.args.self.edges.predecessors < 2 ^ c.args.self.sheet.n = rw c.args.self.same c.args.self.edges.predecessors_fit in
    tells_some _ _ _ (λ i. edge_at c.args.self.sheet.words.now i c.args.self.edges.v ≡ one_if c.args.self.edges.inserts) fits
    (λ k within t says. search (rules, refused_test)) _ c.some_of.ensures
