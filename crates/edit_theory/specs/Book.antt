-- The reference model (document 01: the book of pipes): how many edges run from each vertex to each other, with no sheet in sight.
-- Definitions only. Assumes nothing.
use Rattle.std.specs.Prelude.{ℕ}
use Rattle.sheet_theory.specs.Lent.{Lent, mult_at}

-- the number of vertices, and for each two of them how many edges run from the first to the second; what it has for numbers that are no
-- vertices is never read
pub record Model : Type 0 where
  pub vertices : ℕ
  pub edge : ℕ → ℕ → ℕ

-- it opens with the n and the edges of a sheet
abbrev pub opened : ℕ → Lent → Model
opened n s = record { vertices = n; edge = mult_at n s }
