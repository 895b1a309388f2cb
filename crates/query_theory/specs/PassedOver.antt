-- The rank of a path: the counts to its end that a walk along it passes over (document 01), over the edges w and the counts C as they
-- stand. Definitions only. Assumes nothing.
use Rattle.std.specs.Prelude.{List, [], ◌∷◌, ℕ, ◌+◌, ◌*◌}
use Rattle.sums.specs.Sum.{sum}

-- of paths to j
module _ (w C : ℕ → ℕ → ℕ) (j : ℕ) where
  -- the counts to j that are passed over on the way from i to b: those from the vertices below b to which an edge runs
  unfoldable pub passed : ℕ → ℕ → ℕ
  passed i b = sum b (λ a. w i a * C a j)

  -- the sum of the counts to j that are passed over from each vertex to the next
  unfoldable pub passed_over : List ℕ → ℕ
  passed_over [] = 0
  passed_over (x ∷ []) = 0
  passed_over (x ∷ y ∷ l) = passed x y + passed_over (y ∷ l)

-- the last vertex; a list without vertices has none, and 0 stands for it
unfoldable pub end : List ℕ → ℕ
end [] = 0
end (x ∷ []) = x
end (x ∷ y ∷ l) = end (y ∷ l)
