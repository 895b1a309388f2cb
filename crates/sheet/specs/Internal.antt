-- What the internal functions of this crate ask and promise, to other crates too. No public call's contract cites these. Definitions
-- only. Assumes nothing.
use Rattle.std.specs.Prelude.{◌≡◌, List, ℕ, ◌+◌, ◌*◌, ◌%◌, ◌^◌, ◌≤◌, ◌<◌, length, get_or}
use Rattle.sums.specs.Sum.{sum}
use Rattle.word.specs.Bit.{bit}
use Rattle.sheet_theory.specs.Layout.{most_vertices, counts_end, size, counts_from, count_place, count_at}
use Rattle.sheet.specs.Fill.{puts, over}

-- ---- places

-- r is where the counts from i begin, with all of them within a sheet
pub record CountsFrom (n i r : ℕ) : Type 0 where
  pub is : r ≡ counts_from n i
  pub within : r + n ≤ size n
  pub small : r + n ≤ counts_end most_vertices

-- r is the place of the count from i to j, within a sheet
pub record Place (n i j r : ℕ) : Type 0 where
  pub is : r ≡ count_place n i j
  pub within : r < size n
  pub small : r < counts_end most_vertices

-- l has the counts from i
pub record CountsOf (n : ℕ) (s : List ℕ) (i : ℕ) (l : List ℕ) : Type 0 where
  pub long : length l ≡ n
  pub counts : (j : ℕ) → j < n → get_or l j 0 ≡ count_at n s i j

-- where the count from i to itself stands
abbrev pub diagonal_at : ℕ → ℕ → ℕ
diagonal_at n i = count_place n i i

-- ---- words and counts added up

-- t with, at each of the first k places, what op makes of the word of t and that of l: `plus` or `minus`
abbrev pub combined : (ℕ → ℕ → ℕ) → ℕ → List ℕ → List ℕ → List ℕ
combined op k l t = puts t (λ j. j) (λ j. op (get_or t j 0) (get_or l j 0)) k

-- u has as many words as t, and each below w is that of t with the counts to its column, of the w from c on, from the vertices of the
-- mask below k, added or taken off: op is `plus` or `minus`
pub record SumsBy (op : ℕ → ℕ → ℕ) (n : ℕ) (s : List ℕ) (c w mask : ℕ) (t u : List ℕ) (k : ℕ) : Type 0 where
  pub long : length u ≡ length t
  pub each : (j : ℕ) → j < w → get_or t j 0 < 2 ^ 64 → get_or u j 0 ≡ op (get_or t j 0) (sum k (λ b. bit mask b * count_at n s b (c + j)))

-- t has, at each j below n, the sum of the counts to j from the vertices of the mask, modulo 2 ^ 64
pub record CountsSummed (n : ℕ) (s : List ℕ) (mask : ℕ) (t : List ℕ) : Type 0 where
  pub long : length t ≡ most_vertices
  pub sums : (j : ℕ) → j < n → get_or t j 0 ≡ sum n (λ b. bit mask b * count_at n s b j) % 2 ^ 64

-- s with f j for the count from i to j, for each of the w columns j from c on
unfoldable pub with_counts : ℕ → List ℕ → ℕ → ℕ → ℕ → (ℕ → ℕ) → List ℕ
with_counts n s i c w f = over s (counts_from n i + c) (λ j. f (c + j)) w
