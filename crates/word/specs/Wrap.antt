-- The sum and the difference of two numbers modulo 2 ^ 64. Definitions only. Assumes nothing.
use Rattle.std.specs.Prelude.{ℕ, ◌+◌, ◌-◌, ◌%◌, ◌^◌}

-- x plus y, modulo 2 ^ 64
abbrev pub plus : ℕ → ℕ → ℕ
plus x y = (x + y) % 2 ^ 64

-- x less y, modulo 2 ^ 64: y is reduced first, so that 2 ^ 64 less it is not cut off at 0
unfoldable pub minus : ℕ → ℕ → ℕ
minus x y = (x + (2 ^ 64 - y % 2 ^ 64)) % 2 ^ 64
