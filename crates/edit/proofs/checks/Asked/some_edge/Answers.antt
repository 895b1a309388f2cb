-- `edit::checks::Asked::some_edge` meets its contract: each way out is a law of CheckLaws. Assumes nothing.
use Rattle.std.proofs.Common.{arith}
use Rattle.edit.proofs.CheckLaws.{edge_into, edge_out}
use Rattle.edit.proofs.checks.Asked.some_edge.Goals as goal

pub returns-then-some_into : goal.returns-then-some_into
returns-then-some_into c =
    let s = c.args.self.sheet in
    let e = c.args.self.edges in
    edge_into e.inserts s.n s.words.now e.v e.predecessors e.successors _ (omega arith) c.some_into.ensures c.if-some_into.true

pub returns : goal.returns
returns c =
    let s = c.args.self.sheet in
    let e = c.args.self.edges in
    edge_out e.inserts s.n s.words.now e.v e.predecessors e.successors _ _ s.shape.high (omega arith) (rw c.args.self.same e.successors_fit)
    c.some_into.ensures c.if-some_into.false
    (rw c.row.ensures at c.refused_bits.ensures)
