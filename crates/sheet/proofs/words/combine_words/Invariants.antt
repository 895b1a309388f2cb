-- `sheet::words::combine_words` meets its contract: after j turns the first j words are combined. Assumes nothing.
use Rattle.std.proofs.Common.{◌≡◌}
use Rattle.sheet.specs.Internal.{combined}
use Rattle.sheet.proofs.words.combine_words.Given as goal

abbrev pub invariant-loop-j : goal.invariant-loop-j
invariant-loop-j g l = l.t ≡ combined g.C.Combine.op l.j l.words l.initial.t
