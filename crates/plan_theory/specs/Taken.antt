-- A list of records by the reference model alone, with no sheet in sight: taken whole, or stopped at the first record that is malformed or
-- whose edit the model refuses. Definitions only. Assumes nothing.
use Rattle.std.specs.Prelude.{◌≡◌, ◌⊎◌, Ok, Err, List, [], ◌∷◌, ◌++◌, ℕ, suc, ◌≤◌, ◌<◌, length}
use Rattle.record.specs.declared.Record.TheVariants.{Insert}
use Rattle.record.specs.Record.{Reading, malformed, record_number}
use Rattle.graph.specs.Graph.{Cycle}
use Rattle.answer.specs.Table.{First}
use Rattle.edit_theory.specs.Edit.{insert_edge}
use Rattle.edit_theory.specs.Book.{Model}
use Rattle.edit_theory.specs.Table.{most_parallel}
use Rattle.edit_theory.specs.Model.{effect, model_conditions}
use Rattle.plan_theory.specs.Records.{by_edit}

-- k is the number of a record on the model m: that of its form, or that of its edit
abbrev pub RecordNumber : Model → Reading → ℕ → Type 0
RecordNumber m x k = by_edit m.vertices (λ e. First (model_conditions m e) k) (k ≡ record_number (Err malformed)) x

-- what a record makes of the model
abbrev pub record_effect : Model → Reading → Model
record_effect m = by_edit m.vertices (effect m) m

-- x is what becomes of the number of edges from i to j, where k is what becomes of that from u to v, and any other stays what it was, w
abbrev pub OnlyAt : ℕ → ℕ → ℕ → ℕ → ℕ → ℕ → ℕ → Type 0
OnlyAt u v k i j w x = ((i ≡ u) × (j ≡ v) × (x ≡ k)) ⊎ ((¬ ((i ≡ u) × (j ≡ v))) × (x ≡ w))

-- no record of l is refused, and they make m' of m
unfoldable pub Taken : Model → List Reading → Model → Type 0
Taken m [] m' = m' ≡ m
Taken m (x ∷ l) m' = RecordNumber m x 0 × Taken (record_effect m x) l m'

-- the record at the place p of l, from 1 up, is the first that is refused, and k is its number
pub record Stops (m : Model) (l : List Reading) (k p : ℕ) : Type 0 where
  pub before : List Reading
  pub at : Reading
  pub rest : List Reading
  pub split : l ≡ before ++ (at ∷ rest)
  pub place : p ≡ suc (length before)
  pub model : Model
  pub taken : Taken m before model
  pub number : RecordNumber model at k
  pub refused : ¬ (k ≡ 0)

-- inserting the edge from u to v in m, which has n vertices, is refused because it closes a cycle, and for no earlier reason
pub record Closing (n : ℕ) (m : Model) (u v : ℕ) : Type 0 where
  pub from : u < n
  pub to : v < n
  pub apart : ¬ (u ≡ v)
  pub new : ¬ (most_parallel ≤ m.edge u v)
  pub cycle : Cycle n (effect m (insert_edge n u v)).edge

-- the first record of l that is refused inserts an edge that closes a cycle
pub record ClosesAt (m : Model) (l : List Reading) : Type 0 where
  pub before : List Reading
  pub u : ℕ
  pub v : ℕ
  pub rest : List Reading
  pub split : l ≡ before ++ (Ok (Insert u v) ∷ rest)
  pub model : Model
  pub taken : Taken m before model
  pub closing : Closing m.vertices model u v
