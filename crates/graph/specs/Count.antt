-- The number of paths by a recursion that computes. `exact_path_count` in proofs/Counting.antt says that it is the number of paths, so nobody has to believe it.
-- Definitions only. Assumes nothing.
use Rattle.std.specs.Prelude.{ℕ, zero, suc, ◌+◌, ◌*◌}
use Rattle.sums.specs.Sum.{sum, delta}

module _ (n : ℕ) (w : ℕ → ℕ → ℕ) where
  -- The number of walks from i to j of at most k vertices, i among them: one if i is j, and for each edge from i to a vertex b those from b to j.
  unfoldable pub walks : ℕ → ℕ → ℕ → ℕ
  walks zero i j = 0
  walks (suc k) i j = delta i j + sum n (λ b. w i b * walks k b j)

  -- The number of walks of at most n vertices. Where there is no cycle no walk is longer and each is a path: this is the count of document 01.
  unfoldable pub path_count : ℕ → ℕ → ℕ
  path_count i j = walks n i j
