-- A valid sheet (document 01: a true sheet), and what a call that wants one looks for first. Definitions only. Assumes nothing.
use Rattle.std.specs.Prelude.{◌∷◌, ℕ, ◌<◌}
use Rattle.graph.specs.Graph.{PathsExactly, Acyclic}
use Rattle.sheet_theory.specs.Layout.{count_at, edge_at}
use Rattle.sheet_theory.specs.Lent.{Lent, Lends}
use Rattle.answer.specs.Table.{◌gives◌, Conditions}
use Rattle.sheet_theory.specs.Conditions.{StrayRow, sized, altering}

-- s is a valid sheet of n vertices: no row has a bit at n or above, there is no cycle, and each count is the number of paths
pub record Valid (n : ℕ) (s : Lent) : Type 0 where
  pub shape : Lends n s
  pub rows : ¬ (StrayRow n s.words)
  pub acyclic : Acyclic n (edge_at s.words)
  pub counts : (i j : ℕ) → i < n → j < n → PathsExactly n (edge_at s.words) i j (count_at n s.words i j)

-- 9: the sheet is not valid; and then the conditions l
abbrev pub not_valid : ℕ → Lent → Conditions → Conditions
not_valid n s l = (¬ (Valid n s)) gives 9 ∷ l

-- 1, 2 and 9 of a call that reads, and then the conditions l
abbrev pub valid_conditions : ℕ → Lent → Conditions → Conditions
valid_conditions n s l = sized n s (not_valid n s l)

-- 1, 2 and 9 of a call that alters a sheet, and then the conditions l
abbrev pub altering_valid : ℕ → Lent → Conditions → Conditions
altering_valid n s l = altering n s (not_valid n s l)
