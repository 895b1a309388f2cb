-- Text as a list of bytes, in ASCII: the two digits of a number below 100, and some bytes put into a buffer. Definitions only. Assumes
-- nothing.
use Rattle.std.specs.Prelude.{◌≡◌, List, [], ◌∷◌, ◌++◌, ℕ, ◌+◌, ◌/◌, ◌%◌, length, take, drop}

-- two digits: `0` is 48
abbrev pub two_digits : ℕ → List ℕ
two_digits x = (48 + x / 10) ∷ (48 + x % 10) ∷ []

-- a buffer with the bytes b from the place at on, and the rest as it was
abbrev pub pasted : List ℕ → ℕ → List ℕ → List ℕ
pasted buffer at b = take at buffer ++ (b ++ drop (at + length b) buffer)

-- bytes b have been put into a buffer from the place at on, which has made l of it, and r is the place after them
pub record Put (buffer : List ℕ) (at : ℕ) (b l : List ℕ) (r : ℕ) : Type 0 where
  pub place : r ≡ at + length b
  pub bytes : l ≡ pasted buffer at b

-- a buffer with the bytes b in its first places, and the rest as it was
abbrev pub written : List ℕ → List ℕ → List ℕ
written b buffer = b ++ drop (length b) buffer
