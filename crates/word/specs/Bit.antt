-- The bits of a word, by division: one bit, a word with one bit set or cleared, the word of given bits, how many are set, the lowest
-- and the highest that is set, and a word without the lowest.
-- Definitions only. Assumes nothing.
use Rattle.std.specs.Prelude.{◌≡◌, ℕ, ◌+◌, ◌-◌, ◌*◌, ◌/◌, ◌%◌, ◌^◌, ◌<◌, Bool, ◌==◌}
use Rattle.sums.specs.Sum.{sum}

-- the bits of a word
abbrev pub word_bits : ℕ
word_bits = 64

-- bit j of x: 0 or 1
abbrev pub bit : ℕ → ℕ → ℕ
bit x j = x / 2 ^ j % 2

-- whether bit j of x is set
abbrev pub has_bit : ℕ → ℕ → Bool
has_bit x j = bit x j == 1

-- x with bit j set: 2 ^ j more where it was not
unfoldable pub with_bit : ℕ → ℕ → ℕ
with_bit x j = x + (1 - bit x j) * 2 ^ j

-- x with bit j cleared: 2 ^ j less where it was set
unfoldable pub without_bit : ℕ → ℕ → ℕ
without_bit x j = x - bit x j * 2 ^ j

-- the word whose bit j, for j below 64, is f j, where each f j is 1 or 0
unfoldable pub of_bits : (ℕ → ℕ) → ℕ
of_bits f = sum word_bits (λ j. f j * 2 ^ j)

-- how many bits of a word are set
unfoldable pub bit_count : ℕ → ℕ
bit_count x = sum word_bits (λ j. bit x j)

-- r is the place of the lowest bit of x that is set; it is below n where x is below 2 ^ n
pub record Lowest (x r : ℕ) : Type 0 where
  pub within : r < word_bits
  pub set : bit x r ≡ 1
  pub least : (k : ℕ) → k < r → bit x k ≡ 0
  pub below : (n : ℕ) → x < 2 ^ n → r < n

-- r is the place of the highest bit of x that is set
pub record Highest (x r : ℕ) : Type 0 where
  pub within : r < word_bits
  pub set : bit x r ≡ 1
  pub greatest : (k : ℕ) → r < k → bit x k ≡ 0

-- r is x with the lowest bit that is set cleared
abbrev pub LowestCleared : ℕ → ℕ → Type 0
LowestCleared x r = (k : ℕ) → Lowest x k → r ≡ without_bit x k
