-- Edges put in at one vertex, and the table of path counts after that, from the one before: King and Sagert's update. Edges run from
-- the predecessors to v, and from v to the successors. α is not 0 at the predecessors and 0 elsewhere, and so β at the successors.
-- Definitions only. Assumes nothing.
use Rattle.std.specs.Prelude.{ℕ, ◌+◌, ◌*◌, ◌<◌}
use Rattle.sums.specs.Sum.{sum, delta}

-- the edges after the insertion
unfoldable pub inserted : (ℕ → ℕ → ℕ) → ℕ → (ℕ → ℕ) → (ℕ → ℕ) → ℕ → ℕ → ℕ
inserted w v α β i j = w i j + α i * delta j v + delta i v * β j

-- by the table C, the paths from i to the predecessors: F of document 01
unfoldable pub from_sum : ℕ → (ℕ → ℕ → ℕ) → (ℕ → ℕ) → ℕ → ℕ
from_sum n C α i = sum n (λ a. α a * C i a)

-- by the table C, the paths from the successors to j: T of document 01
unfoldable pub to_sum : ℕ → (ℕ → ℕ → ℕ) → (ℕ → ℕ) → ℕ → ℕ
to_sum n C β j = sum n (λ b. β b * C b j)

-- the table after the insertion: to the paths that stand come those by v and a successor, by a predecessor and v, and by a predecessor,
-- v and a successor
unfoldable pub updated : ℕ → (ℕ → ℕ → ℕ) → ℕ → (ℕ → ℕ) → (ℕ → ℕ) → ℕ → ℕ → ℕ
updated n C v α β i j = C i j + (C i v * to_sum n C β j + from_sum n C α i * C v j + from_sum n C α i * to_sum n C β j)

-- What the inserted edges close to a cycle, by the table C: a path from v to a predecessor, from a successor to v, or from a successor to
-- a predecessor. v itself may be a predecessor or a successor.
pub data Closes (n : ℕ) (C : ℕ → ℕ → ℕ) (v : ℕ) (α β : ℕ → ℕ) : Type 0 where
  into : (a : ℕ) → a < n → 0 < α a → 0 < C v a → Closes n C v α β
  out : (b : ℕ) → b < n → 0 < β b → 0 < C b v → Closes n C v α β
  through : (a b : ℕ) → a < n → b < n → 0 < α a → 0 < β b → 0 < C b a → Closes n C v α β
