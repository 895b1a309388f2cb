-- `paths::built::Graph::read` is safe: the words of a sheet of n vertices are no more than those of 64. Assumes nothing.
use Rattle.std.proofs.Common.{arith}
use Rattle.sheet_theory.proofs.LayoutLaws.{size_le, greatest}
use Rattle.paths.proofs.built.Graph.read.Goals as goal

pub slice_bounds-sheet-end : goal.slice_bounds-sheet-end
slice_bounds-sheet-end c = omega (arith, size_le c.in-Some-Graph-default.vertices (omega arith), greatest)
