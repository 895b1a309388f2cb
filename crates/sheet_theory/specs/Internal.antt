-- What the laws of this crate and the internal functions of others share. No public call's contract cites these. Definitions only.
-- Assumes nothing.
use Rattle.std.specs.Prelude.{◌≡◌, List, ℕ, ◌+◌, ◌*◌, ◌%◌, ◌^◌, ◌<◌}
use Rattle.sums.specs.Sum.{sum, delta}
use Rattle.sheet_theory.specs.Layout.{row_at, count_at, edge_at}

-- the count from i to j that the recurrence gives, from those of the successors of i, modulo 2 ^ 64
unfoldable pub successors_sum : ℕ → List ℕ → ℕ → ℕ → ℕ
successors_sum n s i j = (delta i j + sum n (λ b. edge_at s i b * count_at n s b j)) % 2 ^ 64

-- the counts from i satisfy the recurrence
abbrev pub CountsHold : ℕ → List ℕ → ℕ → Type 0
CountsHold n s i = (j : ℕ) → j < n → count_at n s i j ≡ successors_sum n s i j

-- no row has a bit at n or above, by the numbers
abbrev pub RowsBelow : ℕ → List ℕ → Type 0
RowsBelow n s = (i : ℕ) → i < n → row_at s i < 2 ^ n
