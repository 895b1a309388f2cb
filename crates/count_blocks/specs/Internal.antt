-- What the internal functions that work by blocks of columns ask and promise. No public call's contract cites these. Definitions only.
-- Assumes nothing.
use Rattle.std.specs.Prelude.{◌≡◌, ℕ, ◌+◌, ◌*◌, ◌%◌, ◌^◌, ◌<◌, ◌≤◌, ◌⊎◌, List, length, ◌≢◌, slice_index, Option, Some, None}
use Rattle.sums.specs.Sum.{sum, delta}
use Rattle.word.specs.Bit.{bit}
use Rattle.sheet_theory.specs.Layout.{count_at}
use Rattle.sheet_theory.specs.Internal.{successors_sum}

-- how many columns a block has
abbrev pub columns : ℕ
columns = 16

-- the words of the array of `UnitWords`
abbrev pub unit_words : ℕ
unit_words = 2 * columns

-- u has 1 in its middle, and 0 at every other place
pub record UnitWords (u : List ℕ) : Type 0 where
  pub long : length u ≡ unit_words
  pub one : (k : ℕ) → k < unit_words → slice_index u k ≡ delta k columns

-- r is the place of i among the columns from c on, or none if i is none of them
abbrev pub PlaceOf : ℕ → ℕ → Option ℕ → Type 0
PlaceOf i c (Some r) = (r < columns) × (i ≡ c + r)
PlaceOf i c None = (i < c) ⊎ (c + columns ≤ i)

-- u is t, which has words of 64 bits, with one added or taken off at the place of i, if it is among the columns from c on: op is `plus`
-- or `minus`
pub record OwnBy (op : ℕ → ℕ → ℕ) (i c : ℕ) (t u : List ℕ) : Type 0 where
  pub long : length u ≡ columns
  pub fits : (j : ℕ) → slice_index t j < 2 ^ 64
  pub each : (j : ℕ) → j < columns → slice_index u j ≡ op (slice_index t j) (delta i (c + j))

-- the count from i to j that the recurrence gives, if the edges from i lead to the vertices of the mask, modulo 2 ^ 64
abbrev pub count_by_mask : ℕ → List ℕ → ℕ → ℕ → ℕ → ℕ
count_by_mask n s i j mask = (delta i j + sum n (λ b. bit mask b * count_at n s b j)) % 2 ^ 64

-- t has these counts from i to the columns from c on
pub record BlockCounted (n : ℕ) (s : List ℕ) (i c mask : ℕ) (t : List ℕ) : Type 0 where
  pub long : length t ≡ columns
  pub counts : (j : ℕ) → j < columns → slice_index t j ≡ count_by_mask n s i (c + j) mask

-- the sheet has them
abbrev pub PartHolds : ℕ → List ℕ → ℕ → ℕ → ℕ → Type 0
PartHolds n s i c mask = (j : ℕ) → c ≤ j → j < c + columns → count_at n s i j ≡ count_by_mask n s i j mask

-- the counts to the columns from c on satisfy the recurrence
abbrev pub BlockHolds : ℕ → List ℕ → ℕ → Type 0
BlockHolds n s c = (i : ℕ) → i < n → (j : ℕ) → c ≤ j → j < c + columns → count_at n s i j ≡ successors_sum n s i j

-- the mask holds each of the columns from c on
abbrev pub HasColumns : ℕ → ℕ → Type 0
HasColumns c mask = (k : ℕ) → c ≤ k → k < c + columns → bit mask k ≡ 1

-- r is leading, with i or without; without only if i was not in it and the mask is empty
pub record Led (i leading mask r : ℕ) : Type 0 where
  pub other : (k : ℕ) → (k ≢ i) → bit r k ≡ bit leading k
  pub out : bit r i ≡ 0 → (mask ≡ 0) × (bit leading i ≡ 0)

-- the block from r on lies within the n columns, and holds column c and the 15 after it, as far as there are
pub record BlockAt (n c r : ℕ) : Type 0 where
  pub low : r ≤ c
  pub within : r + columns ≤ n
  pub holds : (j : ℕ) → j < n → j < c + columns → j < r + columns
