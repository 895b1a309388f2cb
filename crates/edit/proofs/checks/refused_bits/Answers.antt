-- `edit::checks::refused_bits` meets its contract: the way out of a deletion is a law of CheckLaws. Assumes nothing.
use Rattle.std.proofs.Common.{arith}
use Rattle.edit.proofs.CheckLaws.{refused_absent}
use Rattle.edit.proofs.checks.refused_bits.Goals as goal

pub returns : goal.returns
returns c = refused_absent _ _ (omega arith) c.if-inserts.false
