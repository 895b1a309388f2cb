-- Sums of a function over the numbers below n, and Kronecker's delta. Definitions only. Assumes nothing.
use Rattle.std.specs.Prelude.{ℕ, zero, suc, ◌+◌}

-- f 0 + f 1 + .. + f (n - 1)
unfoldable pub sum : ℕ → (ℕ → ℕ) → ℕ
sum zero f = 0
sum (suc n) f = sum n f + f n

-- 1 where i and j are the same number, and 0 where they differ
unfoldable pub delta : ℕ → ℕ → ℕ
delta zero zero = 1
delta zero (suc j) = 0
delta (suc i) zero = 0
delta (suc i) (suc j) = delta i j
