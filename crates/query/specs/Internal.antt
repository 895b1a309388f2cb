-- What the internal functions ask and promise. No public call's contract cites these. Definitions only. Assumes nothing.
use Rattle.std.specs.Prelude.{◌≡◌, Option, Some, None, List, [], ℕ, ◌≤◌, ◌<◌, length, get_or}
use Rattle.answer.specs.Table.{Conditions}
use Rattle.sheet_theory.specs.Layout.{count_at, edge_at}
use Rattle.sheet_theory.specs.Lent.{Lent}
use Rattle.sheet_theory.specs.Conditions.{vertex_conditions}
use Rattle.query.specs.declared.walk.Next.{Next}
use Rattle.query.specs.declared.without.WithoutEdge.{WithoutEdge}
use Rattle.query_theory.specs.Walk.{goes, passes, tried}
use Rattle.query_theory.specs.ReachesWithout.{edge_conditions}
use Rattle.query_theory.specs.Unrank.{walk, buffer_conditions}

-- what is looked for before the product of an edge, past the shape of the sheet: 3, 7
abbrev pub without_conditions : ℕ → Lent → WithoutEdge → Conditions
without_conditions n s w =
    vertex_conditions n w.from w.to (vertex_conditions n w.edge_from w.edge_to (edge_conditions n s w.edge_from w.edge_to))

-- what is looked for before a walk, past the shape of the sheet: 3, 10, 11
abbrev pub before_walk : ℕ → Lent → ℕ → ℕ → ℕ → ℕ → Conditions
before_walk n s i j k len = vertex_conditions n i j (buffer_conditions n s i j k len [])

-- r is where the walk to j goes from i by the rank k, with what is left of k; nothing, where no edge fits
abbrev pub Stepped : ℕ → List ℕ → ℕ → ℕ → ℕ → Option Next → Type 0
Stepped n s i j k None = (left : ℕ) × (tried (edge_at s) (count_at n s) j i k n ≡ passes left)
Stepped n s i j k (Some r) = (r.vertex < n) × (tried (edge_at s) (count_at n s) j i k n ≡ goes r.vertex r.left)

-- l is the walk from i to j by the rank k, which arrives with k at 0
pub record IsWalk (n : ℕ) (s : List ℕ) (i j k : ℕ) (l : List ℕ) : Type 0 where
  pub some : 0 < length l
  pub within : length l ≤ n
  pub is : l ≡ walk n s i j k

-- every entry of the list is a vertex
abbrev pub Vertices : ℕ → List ℕ → Type 0
Vertices n p = (t : ℕ) → t < length p → get_or p t 0 < n
