-- A sheet that is known by its edges alone (document 01: the orchards to try). Definitions only. Assumes nothing.
use Rattle.std.specs.Prelude.{◌≡◌, Bool, false, ◌||◌, List, [], ◌∷◌, ℕ, ◌<◌}
use Rattle.graph.specs.Uses.{one_edge}
use Rattle.sheet_theory.specs.Lent.{Lent, mult_at}
use Rattle.sheet_theory.specs.Valid.{Valid}
use Rattle.edit_theory.specs.Edit.{one_if}

-- whether the edge from i to j is in a list of edges, each given by its two ends
abbrev pub listed : List (ℕ × ℕ) → ℕ → ℕ → Bool
listed [] i j = false
listed (e ∷ l) i j = one_edge e.0 e.1 i j || listed l i j

-- 1 where an edge from i to j is listed, else 0
abbrev pub edges_of : List (ℕ × ℕ) → ℕ → ℕ → ℕ
edges_of l i j = one_if (listed l i j)

-- s is any valid sheet of n vertices whose row bits are the edges l
pub record SheetOf (n : ℕ) (l : List (ℕ × ℕ)) (s : Lent) : Type 0 where
  pub valid : Valid n s
  pub edges : (i j : ℕ) → i < n → j < n → mult_at n s i j ≡ edges_of l i j

-- the edges of D, the orchard of document 01's listing
abbrev pub diamond : List (ℕ × ℕ)
diamond = (0, 1) ∷ (0, 2) ∷ (1, 3) ∷ (2, 3) ∷ []
