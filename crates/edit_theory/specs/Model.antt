-- What the reference model answers to an edit and becomes, and which sheet is worked out afresh from it. Definitions only. Assumes
-- nothing.
use Rattle.std.specs.Prelude.{◌≡◌, ℕ, ◌≤◌, ◌<◌, ltb, length}
use Rattle.sums.specs.Sum.{sum}
use Rattle.graph.specs.Graph.{PathsExactly, Cycle, Acyclic}
use Rattle.answer.specs.declared.Answer.{Answer}
use Rattle.answer.specs.Table.{Conditions, First}
use Rattle.answer.specs.Answers.{decided}
use Rattle.sheet_theory.specs.Layout.{size, count_at}
use Rattle.sheet_theory.specs.Lent.{Lent, mult_at}
use Rattle.sheet_theory.specs.Conditions.{StrayRow}
use Rattle.edit_theory.specs.Edit.{Edit, insert_edge, named, one_if, changed}
use Rattle.edit_theory.specs.Book.{Model}
use Rattle.edit_theory.specs.Table.{most_parallel, Grounds, table}

-- the edges that e names are entered, or struck out, all at once
abbrev pub effect : Model → Edit → Model
effect m e = record { vertices = m.vertices; edge = λ i j. changed e.inserts (named e.edges i j) (m.edge i j) }

-- the number of pairs with an edge
abbrev pub edge_count : Model → ℕ
edge_count m = sum m.vertices (λ i. sum m.vertices (λ j. one_if (ltb 0 (m.edge i j))))

-- the conditions on the model; a cycle is looked for among its edges and all the edges to insert together
abbrev pub model_grounds : Model → Edit → Grounds
model_grounds m e = record { other = ¬ (e.vertices ≡ m.vertices); closed = Cycle m.vertices (effect m e).edge }

abbrev pub model_conditions : Model → Edit → Conditions
model_conditions m e = table e most_parallel m (model_grounds m e)

-- m, given the edit e, answers r and is m' afterwards
pub record Step (m : Model) (e : Edit) (r : Answer) (m' : Model) : Type 0 where
  pub number : First (model_conditions m e) r.number
  pub place : r.place ≡ 0
  pub value : r.value ≡ decided r.number (edge_count (effect m e)) 0
  pub after : m' ≡ decided r.number (effect m e) m

-- an edge may be inserted if inserting it alone would be accepted (document 01: a pipe may be laid)
pub record MayInsert (m : Model) (u v : ℕ) : Type 0 where
  pub answer : Answer
  pub after : Model
  pub step : Step m (insert_edge m.vertices u v) answer after
  pub accepted : answer.number ≡ 0

-- an edge runs between two different vertices, fewer than the most are there, and there is no cycle with it
pub record Free (m : Model) (u v : ℕ) : Type 0 where
  pub from : u < m.vertices
  pub to : v < m.vertices
  pub apart : ¬ (u ≡ v)
  pub new : ¬ (most_parallel ≤ m.edge u v)
  pub acyclic : Acyclic m.vertices (effect m (insert_edge m.vertices u v)).edge

-- s is the sheet worked out afresh from m: its edges are those of m, and each count is the number of paths over them
pub record Fresh (m : Model) (s : Lent) : Type 0 where
  pub long : length s.words ≡ size m.vertices
  pub rows : ¬ (StrayRow m.vertices s.words)
  pub bits : (i j : ℕ) → i < m.vertices → j < m.vertices → mult_at m.vertices s i j ≡ m.edge i j
  pub counts : (i j : ℕ) → i < m.vertices → j < m.vertices → PathsExactly m.vertices m.edge i j (count_at m.vertices s.words i j)
