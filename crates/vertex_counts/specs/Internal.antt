-- What the internal functions that work out the counts from a vertex ask and promise. No public call's contract cites these. Definitions only.
-- Assumes nothing.
use Rattle.std.specs.Prelude.{◌≡◌, ◌⊎◌, List, ℕ, ◌+◌, ◌%◌, ◌^◌, ◌≤◌, ◌<◌, length, get_or}
use Rattle.graph.specs.Count.{path_count}
use Rattle.sheet_theory.specs.Layout.{most_vertices, counts_end, row_at, count_at, edge_at, redone}
use Rattle.sheet_theory.specs.Internal.{successors_sum}

-- t has, at each j below n, the count from i to j that the recurrence gives
pub record SuccessorsSummed (n : ℕ) (s : List ℕ) (i : ℕ) (t : List ℕ) : Type 0 where
  pub long : length t ≡ most_vertices
  pub sums : (j : ℕ) → j < n → get_or t j 0 ≡ successors_sum n s i j

-- the first n words of s are those of t
abbrev pub SameWords : ℕ → List ℕ → List ℕ → Type 0
SameWords n s t = (j : ℕ) → j < n → get_or s j 0 ≡ get_or t j 0

-- t is s with each count to the w columns from c on worked out from the rows, modulo 2 ^ 64
pub record ColumnsFilled (n : ℕ) (s : List ℕ) (c w : ℕ) (t : List ℕ) : Type 0 where
  pub long : length t ≡ length s
  pub rows : (i : ℕ) → i < n → row_at t i ≡ row_at s i
  pub filled : (i j : ℕ) → i < n → j < n → c ≤ j → j < c + w → count_at n t i j ≡ path_count n (edge_at s) i j % 2 ^ 64
  pub kept : (i j : ℕ) → i < n → j < n → (j < c) ⊎ (c + w ≤ j) → count_at n t i j ≡ count_at n s i j
  pub rest : (k : ℕ) → counts_end n ≤ k → get_or t k 0 ≡ get_or s k 0

-- s with each count worked out from its rows, modulo 2 ^ 64
abbrev pub counted : ℕ → List ℕ → List ℕ
counted n s = redone n (row_at s) (λ i j. path_count n (edge_at s) i j % 2 ^ 64) s
