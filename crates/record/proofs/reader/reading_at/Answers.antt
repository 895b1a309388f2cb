-- `record::reader::reading_at` meets its contract: each way out is a law of ReaderLaws. Assumes nothing.
use Rattle.std.proofs.Common.{arith}
use Rattle.record.proofs.ReaderLaws.{reading_over, reading_next}
use Rattle.record.proofs.reader.reading_at.Goals as goal

pub returns-then-div_ceil-k-clause-gives : goal.returns-then-div_ceil-k-clause-gives
returns-then-div_ceil-k-clause-gives c = reading_over c.args.plan.now c.args.k (omega arith)

pub returns-clause-gives : goal.returns-clause-gives
returns-clause-gives c = reading_next c.args.plan.now c.args.k (omega arith) _ c.decode.ensures
