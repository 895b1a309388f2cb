-- What the search for a topological order asks and promises. No public call's contract cites these. Definitions only. Assumes nothing.
use Rattle.std.specs.Prelude.{◌≡◌, Option, Some, None, List, [], ◌∷◌, ◌++◌, ℕ, ◌+◌, ◌^◌, ◌≤◌, ◌<◌, length, get_or}
use Rattle.std.specs.Int.Bits.{bit_and}
use Rattle.word.specs.Bit.{bit, bit_count}
use Rattle.graph.specs.Graph.{Edge, Cycle}
use Rattle.graph.specs.Order.{Order}
use Rattle.sheet_theory.specs.Layout.{row_at, edge_at}
use Rattle.sheet_theory.specs.Internal.{RowsBelow}

-- the vertex at place k of an order or of a stack
abbrev pub vertex_at : List ℕ → ℕ → ℕ
vertex_at l k = get_or l k 0

-- ---- the vertices taken away

-- l is, in order, the vertices taken away from the graph of s, and left those that are left: each edge from a vertex taken away leads
-- to one that was taken away before it
pub record Peeled (n : ℕ) (s : List ℕ) (left : ℕ) (l : List ℕ) : Type 0 where
  pub below : left < 2 ^ n
  pub total : bit_count left + length l ≡ n
  pub order : Order n (edge_at s) (length l) (vertex_at l)
  pub taken : (i : ℕ) → i < n → bit left i ≡ 0 → (m : ℕ) × (m < length l) × (vertex_at l m ≡ i)

-- from vertex i no edge leads to a vertex that is left
abbrev pub NoneAhead : List ℕ → ℕ → ℕ → Type 0
NoneAhead s left i = bit_and (row_at s i) left ≡ 0

-- ---- the stack of the search

-- l is vertices that are left, and from each an edge leads to the next
pub record Stack (n : ℕ) (s : List ℕ) (left : ℕ) (l : List ℕ) : Type 0 where
  pub short : length l ≤ n
  pub held : (k : ℕ) → k < length l → bit left (vertex_at l k) ≡ 1
  pub edges : (k : ℕ) → k + 1 < length l → Edge n (edge_at s) (vertex_at l k) (vertex_at l (k + 1))

-- next holds the vertices that can be pushed on such a stack: any that is left, if it is empty, else those to which an edge leads from
-- its last vertex
pub record Ahead (s : List ℕ) (left : ℕ) (l : List ℕ) (next : ℕ) : Type 0 where
  pub first : length l ≡ 0 → next ≡ left
  pub later : (k : ℕ) → length l ≡ k + 1 → next ≡ bit_and (row_at s (vertex_at l k)) left

-- l and then the vertex found are a stack on which no vertex can be pushed; or none is found, and there is a cycle
abbrev pub Descended : ℕ → List ℕ → ℕ → Option ℕ → List ℕ → Type 0
Descended n s left (Some v) l = Stack n s left (l ++ v ∷ []) × NoneAhead s left v
Descended n s left None l = Cycle n (edge_at s)

-- ---- what is found

-- no row of s has a bit at n or above, and l holds every vertex, each after those to which its edges lead
pub record Ordered (n : ℕ) (s l : List ℕ) : Type 0 where
  pub below : RowsBelow n s
  pub long : length l ≡ n
  pub order : Order n (edge_at s) n (vertex_at l)
  pub all : (i : ℕ) → i < n → (m : ℕ) × (m < n) × (vertex_at l m ≡ i)
