-- What a way to combine two words has to satisfy, and the proofs that the sum and the difference modulo 2 ^ 64 do. Assumes nothing.
use Rattle.std.proofs.Common.{◌≡◌, ℕ, ◌+◌, ◌^◌, ◌<◌, arith}
use Rattle.word.specs.Wrap.{plus, minus}

-- op x y is the word x with y added, or taken off, modulo 2 ^ 64: with two numbers one after the other it is as with their sum
pub record Wraps (op : ℕ → ℕ → ℕ) : Type 0 where
  pub none : (x : ℕ) → x < 2 ^ 64 → x ≡ op x 0
  pub twice : (x y z : ℕ) → op (op x y) z ≡ op x (y + z)

pub plus_wraps : Wraps plus
plus_wraps = record { none = λ x h. omega arith; twice = λ x y z. omega arith }

pub minus_wraps : Wraps minus
unfolding minus
minus_wraps = record { none = λ x h. omega arith; twice = λ x y z. omega arith }
