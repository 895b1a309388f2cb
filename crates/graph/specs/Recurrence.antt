-- The recurrences of a table of counts: by the first edge, by the last, and by the first modulo m. Definitions only. Assumes nothing.
use Rattle.std.specs.Prelude.{◌≡◌, ℕ, ◌+◌, ◌*◌, ◌<◌}
use Rattle.sums.specs.Sum.{sum, delta}
use Rattle.sums.specs.Modulo.{Congruent}

module _ (n : ℕ) (w : ℕ → ℕ → ℕ) where
  -- C i j is 1 for the vertex alone if i is j, and C b j for each edge from i to b
  abbrev pub Recurrence : (ℕ → ℕ → ℕ) → Type 0
  Recurrence C = (i j : ℕ) → i < n → j < n → C i j ≡ delta i j + sum n (λ b. w i b * C b j)

  -- the same, modulo m
  abbrev pub RecurrenceMod : ℕ → (ℕ → ℕ → ℕ) → Type 0
  RecurrenceMod m C = (i j : ℕ) → i < n → j < n → Congruent m (C i j) (delta i j + sum n (λ b. w i b * C b j))

  -- the same by the last edge, from a to j
  abbrev pub RecurrenceBack : (ℕ → ℕ → ℕ) → Type 0
  RecurrenceBack C = (i j : ℕ) → i < n → j < n → C i j ≡ delta i j + sum n (λ a. C i a * w a j)
