-- The edits, with their arguments as they arrive, and the edges that they name (document 01: laying and lifting one pipe, or the
-- pipes at one station by masks). Definitions only. Assumes nothing.
use Rattle.std.specs.Prelude.{Bool, true, false, cond, ◌&&◌, ◌||◌, ℕ, ◌+◌, ◌-◌, ◌^◌, eqb}
use Rattle.word.specs.Bit.{has_bit}

-- The edges of an edit: the one from u to v; or, at v, those from the vertices of the mask predecessors to v and those from v to the
-- vertices of the mask successors.
pub data Edges : Type 0 where
  one : (u v : ℕ) → Edges
  at : (v predecessors successors : ℕ) → Edges

-- An edit as it arrives: whether it inserts its edges or deletes them, the number of vertices that the caller says, and the edges.
-- Nothing is checked yet.
pub record Edit : Type 0 where
  pub inserts : Bool
  pub vertices : ℕ
  pub edges : Edges

-- one edge, and the edges at a vertex by masks
abbrev pub edge_edit : Bool → ℕ → ℕ → ℕ → Edit
edge_edit inserts n u v = record { inserts = inserts; vertices = n; edges = one u v }

abbrev pub edges_edit : Bool → ℕ → ℕ → ℕ → ℕ → Edit
edges_edit inserts n v predecessors successors = record { inserts = inserts; vertices = n; edges = at v predecessors successors }

-- the four: laying and lifting one pipe, laying and lifting at a station by masks
abbrev pub insert_edge : ℕ → ℕ → ℕ → Edit
insert_edge = edge_edit true

abbrev pub delete_edge : ℕ → ℕ → ℕ → Edit
delete_edge = edge_edit false

abbrev pub insert_edges_at : ℕ → ℕ → ℕ → ℕ → Edit
insert_edges_at = edges_edit true

abbrev pub delete_edges_at : ℕ → ℕ → ℕ → ℕ → Edit
delete_edges_at = edges_edit false

-- The vertex at which the edges are, and their masks. One edge from u to v is at u, with no predecessor and the successor v.
abbrev pub vertex_of : Edges → ℕ
vertex_of (one u v) = u
vertex_of (at v predecessors successors) = v

abbrev pub predecessors_of : Edges → ℕ
predecessors_of (one u v) = 0
predecessors_of (at v predecessors successors) = predecessors

abbrev pub successors_of : Edges → ℕ
successors_of (one u v) = 2 ^ v
successors_of (at v predecessors successors) = successors

-- whether the edge from i to j is one of those at v by the masks a of predecessors and b of successors (document 01: A and B)
abbrev pub named_at : ℕ → ℕ → ℕ → ℕ → ℕ → Bool
named_at v a b i j = has_bit a i && eqb j v || eqb i v && has_bit b j

-- whether the edge from i to j is one of the edges e
abbrev pub named : Edges → ℕ → ℕ → Bool
named e i j = named_at (vertex_of e) (predecessors_of e) (successors_of e) i j

-- 1 for an edge that is there, and 0 for one that is not
abbrev pub one_if : Bool → ℕ
one_if there = cond there 1 0

-- what becomes of a row's bit: one that is named is set by an insertion and cleared by a deletion, and any other is as it was
abbrev pub marked : Bool → Bool → ℕ → ℕ
marked inserts isNamed x = cond isNamed (one_if inserts) x

-- what becomes of the number of edges from a vertex to another: where it is named, one more by an insertion and one less by a deletion
abbrev pub changed : Bool → Bool → ℕ → ℕ
changed inserts isNamed x = cond inserts (x + one_if isNamed) (x - one_if isNamed)
