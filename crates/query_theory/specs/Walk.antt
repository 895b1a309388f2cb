-- The path from one vertex to another by its rank, as document 01 walks it: over the edges w and the counts C as they stand, whether or
-- not these are numbers of paths. Definitions only. Assumes nothing.
use Rattle.std.specs.Prelude.{cond, List, [], ◌∷◌, ℕ, zero, suc, ◌-◌, ltb, eqb}

-- what comes of trying edges: the walk goes to b with k left, or none of them fits and k is left
pub data Turn : Type 0 where
  goes : (b k : ℕ) → Turn
  passes : (k : ℕ) → Turn

-- a at the head of a walk that arrives; where it does not arrive there are no vertices
unfoldable pub headed : ℕ → List ℕ → List ℕ
headed a [] = []
headed a (b ∷ l) = a ∷ b ∷ l

-- of walks to j
module _ (w C : ℕ → ℕ → ℕ) (j : ℕ) where
  -- The edge from i to b is tried, if there is one: where k is below the count from b to j the walk goes to b, else that count is taken
  -- off k.
  unfoldable pub try_edge : ℕ → ℕ → Turn → Turn
  try_edge i b (goes a k) = goes a k
  try_edge i b (passes k) = cond (ltb 0 (w i b)) (cond (ltb k (C b j)) (goes b k) (passes (k - C b j))) (passes k)

  -- the edges from i to the vertices below b, tried in ascending order
  unfoldable pub tried : ℕ → ℕ → ℕ → Turn
  tried i k zero = passes k
  tried i k (suc b) = try_edge i b (tried i k b)

  -- The walk from i by the rank k, in a graph of n vertices, of at most m vertices, i first. There are none where no edge fits, where m
  -- vertices do not arrive, and where k is not 0 on arriving.
  unfoldable pub walked : ℕ → ℕ → ℕ → ℕ → List ℕ
  walked n zero i k = []
  walked n (suc m) i k = cond (eqb i j) (cond (eqb k 0) (i ∷ []) []) (elim (tried i k n) [ goes b k' ↦ headed i (walked n m b k') | passes k' ↦ [] ])
