-- `sheet::layout::word_count` meets its contract: this is `size`, in code. Assumes nothing.
use Rattle.std.proofs.Common.{rules}
use Rattle.sheet_theory.specs.Layout.{size}
use Rattle.sheet.proofs.layout.word_count.Goals as goal

pub returns : goal.returns
unfolding size
returns c = search rules
