-- Document 01's table for an edit: the conditions by which it is refused, in their order, each over all the edges that it names.
-- Definitions only. Assumes nothing.
use Rattle.std.specs.Prelude.{◌≡◌, ◌⊎◌, Bool, true, false, [], ◌∷◌, ℕ, ◌≤◌, ◌<◌}
use Rattle.word.specs.Bit.{bit}
use Rattle.answer.specs.Table.{◌gives◌, Conditions}
use Rattle.sheet_theory.specs.Conditions.{BadVertices, NoVertex, StrayBit, vertex_conditions}
use Rattle.edit_theory.specs.Edit.{Edges, one, at, Edit, named}
use Rattle.edit_theory.specs.Book.{Model}

-- of the edges e among n vertices, one is a P
abbrev pub SomeEdge : ℕ → Edges → (ℕ → ℕ → Type 0) → Type 0
SomeEdge n e P = (i : ℕ) × (i < n) × (j : ℕ) × (j < n) × (named e i j ≡ true) × P i j

-- of the vertices of the mask, one is a P
abbrev pub SomeOf : ℕ → ℕ → (ℕ → Type 0) → Type 0
SomeOf n mask P = (k : ℕ) × (k < n) × (bit mask k ≡ 1) × P k

-- 3 and 4, and then the conditions l
abbrev pub argued : ℕ → Edges → Conditions → Conditions
argued n (one u v) l = vertex_conditions n u v l
argued n (at v a b) l = NoVertex n v gives 3 ∷ (StrayBit n a ⊎ StrayBit n b) gives 4 ∷ l

-- how many edges there may be from a vertex to another
abbrev pub most_parallel : ℕ
most_parallel = 1

-- 5 and 6 of an insertion, 7 of a deletion, and then the conditions l: m has the edges that are there, and most is how many there may be
-- from a vertex to another
abbrev pub clashes : Bool → ℕ → ℕ → Edges → Model → Conditions → Conditions
clashes true n most g m l = SomeEdge n g (λ i j. i ≡ j) gives 5 ∷ SomeEdge n g (λ i j. most ≤ m.edge i j) gives 6 ∷ l
clashes false n most g m l = SomeEdge n g (λ i j. m.edge i j ≡ 0) gives 7 ∷ l

-- what a sheet and the model say in different words
pub record Grounds : Type 1 where
  -- what is edited has another number of vertices than the edit says
  pub other : Type 0
  -- the edges to insert would close a cycle
  pub closed : Type 0

-- 8, of an insertion alone
abbrev pub ending : Bool → Grounds → Conditions
ending true grounds = grounds.closed gives 8 ∷ []
ending false grounds = []

-- from 5 on, and from 3 on
abbrev pub effects : Bool → ℕ → ℕ → Edges → Model → Grounds → Conditions
effects inserts n most g m grounds = clashes inserts n most g m (ending inserts grounds)

abbrev pub asked : Edit → ℕ → Model → Grounds → Conditions
asked e most m grounds = argued e.vertices e.edges (effects e.inserts e.vertices most e.edges m grounds)

-- THE TABLE for the edit e
abbrev pub table : Edit → ℕ → Model → Grounds → Conditions
table e most m grounds = BadVertices e.vertices gives 1 ∷ grounds.other gives 2 ∷ asked e most m grounds
