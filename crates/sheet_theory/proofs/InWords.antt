-- WHAT THIS CRATE'S DEFINITIONS SAY, spelled out in document 01's words: over words, bits, paths and cycles, and with the numbers
-- written out. A definition that is changed, together with the code that follows it, fails here. Assumes nothing.
use mathlib.Core.Path.{◌≡◌, refl, ap, ◌∙◌}
use mathlib.Core.Logic.{◌⊎◌, ◌↔◌}
use mathlib.Core.List.{List, [], ◌∷◌}
use Prim.Native.Nat.{ℕ, ◌+◌, ◌*◌, ◌≤◌, ◌<◌}
use native.Mathlib.Omega.{arith}
use lib.ListN.{length, get_or}
use Rattle.sums.specs.Sum.{sum}
use Rattle.word.specs.Bit.{bit, bit_count}
use Rattle.graph.specs.Graph.{Exactly, IsPath, Cycle}
use Rattle.answer.specs.Table.{◌gives◌, Conditions, First}
use Rattle.sheet_theory.specs.Layout.{most_vertices, size, set_bits, empty_sheet}
use Rattle.sheet_theory.specs.Lent.{Lent, lent, empty_lent}
use Rattle.sheet_theory.specs.Conditions.{BadLength, vertex_conditions, sized, altering}
use Rattle.sheet_theory.specs.Valid.{Valid, not_valid, valid_conditions, altering_valid}
use Rattle.sheet_theory.specs.Calls.{empty_number, empty_answer, empty_after, path_count_number, path_count_answer}
use Rattle.answer.proofs.AnswerLaws.{decided_new}
use Rattle.sheet_theory.proofs.Refusals.{empty_first, path_count_first}
use Rattle.sheet_theory.proofs.Meaning.{empty_row, empty_valid, empty_leaves}

-- ---- the words

-- bit j of row i; the count from i to j; and the number of set bits in all rows
abbrev pub edge : Lent → ℕ → ℕ → ℕ
edge s i j = bit (get_or s.words i 0) j

abbrev pub count : ℕ → Lent → ℕ → ℕ → ℕ
count n s i j = get_or s.words (n + i * n + j) 0

abbrev pub ones : ℕ → Lent → ℕ
ones n s = sum n (λ i. sum 64 (edge s i))

-- some bit of x at n or above is set
abbrev pub Stray : ℕ → ℕ → Type 0
Stray n x = (j : ℕ) × (n ≤ j) × (bit x j ≡ 1)

-- ---- the laws

-- what is lent has the words of the buffer, all of them and in their order
pub lent_words : (l : List ℕ) → (lent l).words ≡ l
lent_words l = refl

-- the sheet of the type's maker: the valid sheet of 64 vertices whose rows are 0
pub maker_words : (most_vertices ≡ 64) × Valid 64 (lent (empty_sheet most_vertices)) × ((i : ℕ) → i < 64 → get_or (lent (empty_sheet most_vertices)).words i 0 ≡ 0)
maker_words = (refl, empty_valid 64 (omega arith) (omega arith), empty_row 64)

module _ (n : ℕ) (s : Lent) where
  -- 1: n is not 1 to 64; 2: the sheet isn't n + n × n words; and then the conditions l
  abbrev every : Conditions → Conditions
  every l = ((n < 1) ⊎ (64 < n)) gives 1 ∷ (¬ (length s.words ≡ n + n * n)) gives 2 ∷ l

  -- what every call looks for first, one that alters a sheet too, and what is looked for first in a sheet that has to be valid
  pub sized_words : (l : Conditions) (k : ℕ) → First (sized n s l) k → First (every l) k
  unfolding BadLength size
  sized_words l k f = f

  pub altering_words : (l : Conditions) (k : ℕ) → First (altering n s l) k → First (every l) k
  altering_words = sized_words

  pub valid_first_words : (l : Conditions) (k : ℕ) → First (valid_conditions n s l) k → First (every ((¬ (Valid n s)) gives 9 ∷ l)) k
  valid_first_words l k f = sized_words (not_valid n s l) k f

  pub altering_valid_words : (l : Conditions) (k : ℕ) → First (altering_valid n s l) k → First (every ((¬ (Valid n s)) gives 9 ∷ l)) k
  altering_valid_words l k f = altering_words (not_valid n s l) k f

  -- a valid sheet: no row has a bit at n or above, there is no cycle, and each count is the number of paths
  pub valid_words : Valid n s ↔ ((1 ≤ n) × (n ≤ 64) × (length s.words ≡ n + n * n) × ((i : ℕ) → i < n → ¬ (Stray n (get_or s.words i 0)))
      × (¬ (Cycle n (edge s))) × ((i j : ℕ) → i < n → j < n → Exactly (IsPath n (edge s) i j) (count n s i j)))
  unfolding size
  valid_words = (
    λ v. (v.shape.low, v.shape.high, v.shape.long, λ i hi c. v.rows (i, hi, c), v.acyclic, v.counts),
    λ w. record {
      shape = record { low = w.0; high = w.1; long = w.2 };
      rows = λ c. w.3 c.0 c.1 c.2;
      acyclic = w.4;
      counts = w.5;
    },
  )

  -- the number of set bits in all rows
  pub set_bits_words : set_bits n s.words ≡ ones n s
  unfolding set_bits bit_count
  set_bits_words = refl

  -- the empty sheet: the value is 0, and what is left is a valid sheet whose rows are 0
  pub empty_words : First (every []) (empty_answer n s).number
  empty_words = altering_words [] _ (empty_first n s).first

  pub empty_leaves_words : (empty_answer n s).number ≡ 0
      → ((empty_answer n s).value ≡ 0) × Valid n (empty_after n s) × ((i : ℕ) → i < n → get_or (empty_after n s).words i 0 ≡ 0)
  empty_leaves_words z = (
    decided_new (empty_number n s) 0 0 z,
    (empty_leaves n s z).0,
    λ i hi. ap (λ (t : Lent). get_or t.words i 0) (decided_new (empty_number n s) (empty_lent n) s z) ∙ empty_row n i hi,
  )

  -- the count from i to j: the word where it stands
  pub path_count_words : (i j : ℕ) → First (every (((n ≤ i) ⊎ (n ≤ j)) gives 3 ∷ [])) (path_count_answer n s i j).number
  path_count_words i j = sized_words (vertex_conditions n i j []) _ (path_count_first n s i j).first

  pub path_count_value_words : (i j : ℕ) → (path_count_answer n s i j).number ≡ 0 → (path_count_answer n s i j).value ≡ count n s i j
  path_count_value_words i j z = decided_new (path_count_number n s i j) (count n s i j) 0 z
