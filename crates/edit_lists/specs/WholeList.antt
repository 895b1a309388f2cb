-- THE STATEMENT about a whole list of edits (demand 3). Definitions only. Assumes nothing.
use Rattle.std.specs.Prelude.{◌≡◌, List, ◌∷◌, ◌++◌, ℕ, ◌<◌}
use Rattle.answer.specs.declared.Answer.{Answer}
use Rattle.answer.specs.Answers.{answer}
use Rattle.sheet_theory.specs.Layout.{row_at, count_at, redone}
use Rattle.sheet_theory.specs.Lent.{Lent, lent, Lends, mult_at}
use Rattle.sheet_theory.specs.Valid.{Valid}
use Rattle.sheet_theory.specs.Calls.{empty_answer, empty_after}
use Rattle.recount_theory.specs.Calls.{Recount, Validate}
use Rattle.edit_theory.specs.Edit.{Edit}
use Rattle.edit_theory.specs.Outcome.{edit_answer, edit_after}
use Rattle.edit_theory.specs.Book.{Model, opened}
use Rattle.edit_theory.specs.Model.{Fresh}
use Rattle.edit_theory.specs.Change.{Changed}
use Rattle.edit_lists.specs.Run.{Run, answers, after}

-- s is a sheet of n vertices that validate answers with the value 1
pub record Tested (n : ℕ) (s : Lent) : Type 0 where
  pub reply : Answer
  pub validated : Validate n s reply
  pub one : reply.value ≡ 1

-- two models with equally many vertices and equal edges
pub record SameEdges (m m' : Model) : Type 0 where
  pub vertices : m.vertices ≡ m'.vertices
  pub edges : (i j : ℕ) → i < m.vertices → j < m.vertices → m.edge i j ≡ m'.edge i j

-- the edits es, refused ones included, made one after the other on the sheet s of n vertices
pub record WholeList (n : ℕ) (s : Lent) (es : List Edit) : Type 0 where
  -- AFRESH: the model, opened from s and given the same edits, gives the same answers, number, place and value, and at the end the sheet
  -- is the one worked out afresh from it, and valid
  pub model : Model
  pub run : Run (opened n s) es (answers es s) model
  pub fresh : Fresh model (after es s)
  pub valid : Valid n (after es s)
  -- ONLY: every run of the list has those answers and that end, and no other words are worked out afresh from it
  pub only : (rs : List Answer) (m : Model) → Run (opened n s) es rs m → (rs ≡ answers es s) × (m ≡ model)
  pub words : (t : Lent) → Fresh model t → t ≡ after es s
  -- SAME END: any other such start and list that ends with equally many vertices and equal edges ends with the same words
  pub same_end : (n' : ℕ) (s' : Lent) → Tested n' s' → (es' : List Edit) (rs' : List Answer) (m' : Model)
      → Run (opened n' s') es' rs' m' → SameEdges model m' → after es s ≡ after es' s'
  -- and a recount of words that differ from these in the counts alone is accepted and gives these
  pub recounted : (t : Lent) → t ≡ lent (redone n (row_at (after es s).words) (count_at n t.words) (after es s).words)
      → (r : Answer) (u : Lent) → Recount n t r u → (r.number ≡ 0) × (u ≡ after es s)
  -- RISE AND FALL: at every place of the list, an accepted edit changes each count by the number of paths that use one of its edges
  pub changes : (es₁ es₂ : List Edit) (e : Edit) → es ≡ es₁ ++ (e ∷ es₂) → (edit_answer e (after es₁ s)).number ≡ 0
      → (i j : ℕ) → i < n → j < n → Changed e.inserts n (after es₁ s) e.edges (edit_after e (after es₁ s)) i j
  -- START: for every number of vertices and all words that make a sheet, `empty` is accepted and leaves one from which a list may
  -- start, without an edge
  pub start : (n' : ℕ) (w : Lent) → Lends n' w → (empty_answer n' w ≡ answer 0 0 0) × Tested n' (empty_after n' w)
      × ((i j : ℕ) → i < n' → j < n' → mult_at n' (empty_after n' w) i j ≡ 0)
