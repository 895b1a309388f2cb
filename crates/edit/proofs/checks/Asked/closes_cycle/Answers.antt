-- `edit::checks::Asked::closes_cycle` meets its contract: each way out is a law of CheckLaws. Assumes nothing.
use Rattle.std.proofs.Common.{arith}
use Rattle.word.proofs.BitLaws.{set_below}
use Rattle.edit.proofs.CheckLaws.{cycle_into, cycle_out}
use Rattle.edit.proofs.checks.Asked.closes_cycle.Goals as goal

pub meets-requires : goal.meets-requires
meets-requires c = rw c.args.self.same (c.args.self.edges.vertex_fits, c.args.self.edges.predecessors_fit)

pub returns-then-meets : goal.returns-then-meets
returns-then-meets c = cycle_into _ c.args.self.sheet.words.now _ _ _ _ c.meets.ensures c.if-meets.true

pub some_meets-requires : goal.some_meets-requires
some_meets-requires c =
    let e = c.args.self.edges in
    rw (c.args.self.same, c.set_bit-ends.ensures) (e.successors_fit, set_below _ _ _ e.vertex_fits e.predecessors_fit)

pub returns : goal.returns
returns c =
    cycle_out _ c.args.self.sheet.words.now _ _ _ _ c.meets.ensures _ _ (omega arith) c.if-meets.false c.set_bit-ends.ensures
    c.some_meets.ensures
