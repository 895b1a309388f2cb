-- What the public calls answer and leave, for every n and all words. Definitions only. Assumes nothing.
use Rattle.std.specs.Prelude.{◌≡◌, ◌⊎◌, [], ◌∷◌, ℕ, ◌<◌}
use Rattle.graph.specs.Graph.{PathsExactly, Cycle}
use Rattle.answer.specs.declared.Answer.{Answer}
use Rattle.answer.specs.Table.{◌gives◌, Conditions, First}
use Rattle.answer.specs.Answers.{decided}
use Rattle.sheet_theory.specs.Layout.{row_at, count_at, edge_at, set_bits, redone}
use Rattle.sheet_theory.specs.Lent.{Lent, lent}
use Rattle.sheet_theory.specs.Conditions.{StrayRow, sized, altering}
use Rattle.sheet_theory.specs.Valid.{Valid}

-- ---- recount: the counts worked out from the rows (document 01: the survey)

-- what a recount looks for in the rows
abbrev pub row_conditions : ℕ → Lent → Conditions
row_conditions n s = StrayRow n s.words gives 4 ∷ Cycle n (edge_at s.words) gives 8 ∷ []

abbrev pub recount_conditions : ℕ → Lent → Conditions
recount_conditions n s = altering n s (row_conditions n s)

-- t is s but for its counts, and each of these is the number of paths over the rows of s
pub record Recounted (n : ℕ) (s t : Lent) : Type 0 where
  pub kept : t ≡ lent (redone n (row_at s.words) (count_at n t.words) s.words)
  pub counts : (i j : ℕ) → i < n → j < n → PathsExactly n (edge_at s.words) i j (count_at n t.words i j)

-- a recount answers r and turns s into t, and is refused by the first of the conditions cs that holds
pub record RecountBy (cs : Conditions) (n : ℕ) (s : Lent) (r : Answer) (t : Lent) : Type 0 where
  pub number : First cs r.number
  pub place : r.place ≡ 0
  pub value : r.value ≡ decided r.number (set_bits n s.words) 0
  pub accepted : r.number ≡ 0 → Recounted n s t
  pub refused : ¬ (r.number ≡ 0) → t ≡ s

-- the call `recount`, by all its conditions
abbrev pub Recount : ℕ → Lent → Answer → Lent → Type 0
Recount n s r t = RecountBy (recount_conditions n s) n s r t

-- ---- validate: whether a sheet is valid (document 01: the test of a stored sheet)

abbrev pub validate_conditions : ℕ → Lent → Conditions
validate_conditions n s = sized n s []

-- validate answers r
pub record Validate (n : ℕ) (s : Lent) (r : Answer) : Type 0 where
  pub number : First (validate_conditions n s) r.number
  pub place : r.place ≡ 0
  pub value : (Valid n s × (r.value ≡ 1)) ⊎ ((¬ (Valid n s)) × (r.value ≡ 0))
