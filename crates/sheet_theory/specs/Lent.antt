-- What a call is lent: the words of a sheet. Definitions only. Assumes nothing.
use Rattle.std.specs.Prelude.{List, ℕ}
use Rattle.sheet_theory.specs.Layout.{Shape, edge_at, empty_sheet}

pub record Lent : Type 0 where
  pub words : List ℕ

abbrev pub lent : List ℕ → Lent
lent s = record { words = s }

-- what is lent has the shape of a sheet of n vertices
abbrev pub Lends : ℕ → Lent → Type 0
Lends n s = Shape n s.words

-- how many edges run from i to j: 1 or 0, by the rows
abbrev pub mult_at : ℕ → Lent → ℕ → ℕ → ℕ
mult_at n s i j = edge_at s.words i j

-- an empty sheet
abbrev pub empty_lent : ℕ → Lent
empty_lent n = lent (empty_sheet n)
