-- Numbers that leave the same remainder. Definitions only. Assumes nothing.
use Rattle.std.specs.Prelude.{◌≡◌, ℕ, ◌%◌}

-- x and y leave the same remainder by m. By 0 the remainder is the number itself.
abbrev pub Congruent : ℕ → ℕ → ℕ → Type 0
Congruent m x y = x % m ≡ y % m
