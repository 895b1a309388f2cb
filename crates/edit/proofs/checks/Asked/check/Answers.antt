-- `edit::checks::Asked::check` meets its contract: each way out is a law of CheckLaws. Assumes nothing.
use Rattle.std.proofs.Common.{◌<◌, arith}
use Rattle.edit.proofs.CheckLaws.{delete_absent, delete_good, insert_into, insert_out, insert_present, insert_cycle, insert_good}
use Rattle.edit.proofs.checks.Asked.check.Goals.{then-test_bit-via-then-test_bit, then-test_bit-via-else-test_bit+then-test_bit-2}
use Rattle.edit.proofs.checks.Asked.check.Goals as goal

pub returns-then-some_edge : goal.returns-then-some_edge
returns-then-some_edge c = search delete_absent

pub returns-then-not-edges : goal.returns-then-not-edges
returns-then-not-edges c = search delete_good

pub returns-then-test_bit : goal.returns-then-test_bit
returns-then-test_bit c =
    let within : c.args.self.edges.v < c.args.self.sheet.n = omega arith in
    elim c.then-test_bit.branch [
      | then-test_bit-via-then-test_bit w ↦ search insert_into
      | then-test_bit-via-else-test_bit+then-test_bit-2 w ↦ search insert_out
    ]

pub returns-then-some_edge-2 : goal.returns-then-some_edge-2
returns-then-some_edge-2 c =
    let within : c.args.self.edges.v < c.args.self.sheet.n = omega arith in
    search insert_present

pub returns-then-closes_cycle : goal.returns-then-closes_cycle
returns-then-closes_cycle c =
    let within : c.args.self.edges.v < c.args.self.sheet.n = omega arith in
    search insert_cycle

pub returns : goal.returns
returns c =
    let within : c.args.self.edges.v < c.args.self.sheet.n = omega arith in
    search insert_good
