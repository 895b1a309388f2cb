-- By how much an edit changes a count: by the number of paths that use one of its edges. Definitions only. Assumes nothing.
use Rattle.std.specs.Prelude.{◌≡◌, Bool, true, false, ℕ, ◌+◌}
use Rattle.graph.specs.Graph.{PathsWithExactly}
use Rattle.graph.specs.Uses.{Uses}
use Rattle.sheet_theory.specs.Layout.{count_at}
use Rattle.sheet_theory.specs.Lent.{Lent, mult_at}
use Rattle.edit_theory.specs.Edit.{Edges, named}

-- exactly k paths from i to j over the edges of s use at least one of the edges g
abbrev pub Using : ℕ → Lent → Edges → ℕ → ℕ → ℕ → Type 0
Using n s g i j k = PathsWithExactly n (mult_at n s) i j (Uses (named g)) k

-- the count from i to j, where an edit of the edges g has made t of s: an insertion raises it by the paths afterwards that use an
-- inserted edge, a deletion lowers it by the paths before that use a deleted edge
abbrev pub Changed : Bool → ℕ → Lent → Edges → Lent → ℕ → ℕ → Type 0
Changed true n s g t i j = (k : ℕ) × Using n t g i j k × (count_at n t.words i j ≡ count_at n s.words i j + k)
Changed false n s g t i j = (k : ℕ) × Using n s g i j k × (count_at n s.words i j ≡ count_at n t.words i j + k)
