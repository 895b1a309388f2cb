-- The layout of a sheet of n vertices: n rows, then n times n counts (document 01: the sheet). Definitions only. Assumes nothing.
use Rattle.std.specs.Prelude.{◌≡◌, cond, List, [], ◌∷◌, ℕ, zero, suc, ◌+◌, ◌-◌, ◌*◌, ◌/◌, ◌%◌, ◌≤◌, ltb, length, get_or, replicate}
use Rattle.sums.specs.Sum.{sum, delta}
use Rattle.word.specs.Bit.{bit, bit_count}

-- the most vertices that a sheet has
abbrev pub most_vertices : ℕ
most_vertices = 64

-- where the counts end
abbrev pub counts_end : ℕ → ℕ
counts_end n = n + n * n

-- how many words a sheet has
unfoldable pub size : ℕ → ℕ
size n = counts_end n

-- s has the shape of a sheet of n vertices
pub record Shape (n : ℕ) (s : List ℕ) : Type 0 where
  pub low : 1 ≤ n
  pub high : n ≤ most_vertices
  pub long : length s ≡ size n

-- row i
abbrev pub row_at : List ℕ → ℕ → ℕ
row_at s i = get_or s i 0

-- where the counts from i begin: after the rows and the counts from the vertices before i
abbrev pub counts_from : ℕ → ℕ → ℕ
counts_from n i = n + i * n

-- where the count from i to j stands
abbrev pub count_place : ℕ → ℕ → ℕ → ℕ
count_place n i j = counts_from n i + j

-- the count from i to j
abbrev pub count_at : ℕ → List ℕ → ℕ → ℕ → ℕ
count_at n s i j = get_or s (count_place n i j) 0

-- 1 where an edge runs from i to j by the rows, and 0 where none does
abbrev pub edge_at : List ℕ → ℕ → ℕ → ℕ
edge_at s i j = bit (row_at s i) j

-- the number of set bits in all rows
unfoldable pub set_bits : ℕ → List ℕ → ℕ
set_bits n s = sum n (λ i. bit_count (row_at s i))

-- f 0, f 1, .., f (m - 1)
unfoldable pub build : ℕ → (ℕ → ℕ) → List ℕ
build zero f = []
build (suc m) f = f 0 ∷ build m (λ k. f (suc k))

-- word k of s with row i as r i and the count from i to j as c i j
unfoldable pub redone_word : ℕ → (ℕ → ℕ) → (ℕ → ℕ → ℕ) → List ℕ → ℕ → ℕ
redone_word n r c s k = cond (ltb k n) (r k) (cond (ltb k (counts_end n)) (c ((k - n) / n) ((k - n) % n)) (get_or s k 0))

-- s with row i as r i and the count from i to j as c i j, and every other word as it was
unfoldable pub redone : ℕ → (ℕ → ℕ) → (ℕ → ℕ → ℕ) → List ℕ → List ℕ
redone n r c s = build (length s) (redone_word n r c s)

-- the empty sheet: no edge, one path from each vertex to itself, and none to another
unfoldable pub empty_sheet : ℕ → List ℕ
empty_sheet n = redone n (λ i. 0) delta (replicate (size n) 0)
