-- `sheet::View::of` meets its contract: each way out is a law of ShapeLaws. Assumes nothing.
use Rattle.std.proofs.Common.{arith}
use Rattle.sheet_theory.proofs.ShapeLaws.{shape_long, shape_good}
use Rattle.sheet.proofs.view.View.of.Goals as goal

pub returns-then-words-word_count-clause-number : goal.returns-then-words-word_count-clause-number
returns-then-words-word_count-clause-number c = search (shape_long, arith)

pub returns-clause-number : goal.returns-clause-number
returns-clause-number c = search (shape_good, arith)
