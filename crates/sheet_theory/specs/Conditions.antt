-- The conditions of document 01's table that more than one crate looks for, as statements and as tests. Definitions only.
-- Assumes nothing.
use Rattle.std.specs.Prelude.{◌≡◌, ◌⊎◌, Bool, not, ◌||◌, List, ◌∷◌, ℕ, ◌≤◌, ◌<◌, ltb, leb, eqb, length}
use Rattle.word.specs.Bit.{bit}
use Rattle.sheet_theory.specs.Layout.{most_vertices, size, row_at}
use Rattle.sheet_theory.specs.Lent.{Lent}
use Rattle.answer.specs.Table.{◌gives◌, Conditions, Tests}

-- 1: n is not 1 to 64
abbrev pub BadVertices : ℕ → Type 0
BadVertices n = (n < 1) ⊎ (most_vertices < n)

-- 2: the sheet isn't n + n × n words
unfoldable pub BadLength : ℕ → Lent → Type 0
BadLength n s = ¬ (length s.words ≡ size n)

abbrev pub length_test : ℕ → Lent → Bool
length_test n s = not (eqb (length s.words) (size n))

-- 3: a vertex is n or more
abbrev pub NoVertex : ℕ → ℕ → Type 0
NoVertex n i = n ≤ i

-- a word has a bit at n or above
abbrev pub StrayBit : ℕ → ℕ → Type 0
StrayBit n x = (j : ℕ) × (n ≤ j) × (bit x j ≡ 1)

-- 4, in the rows: one has a bit at n or above
abbrev pub StrayRow : ℕ → List ℕ → Type 0
StrayRow n s = (i : ℕ) × (i < n) × StrayBit n (row_at s i)

-- of two vertices named, and then the conditions l
abbrev pub vertex_conditions : ℕ → ℕ → ℕ → Conditions → Conditions
vertex_conditions n i j l = (NoVertex n i ⊎ NoVertex n j) gives 3 ∷ l

abbrev pub vertex_tests : ℕ → ℕ → ℕ → Tests → Tests
vertex_tests n i j l = (leb n i || leb n j) gives 3 ∷ l

-- what every call that reads looks for first, and then the conditions l
abbrev pub sized : ℕ → Lent → Conditions → Conditions
sized n s l = BadVertices n gives 1 ∷ BadLength n s gives 2 ∷ l

abbrev pub sized_tests : ℕ → Lent → Tests → Tests
sized_tests n s l = (ltb n 1 || ltb most_vertices n) gives 1 ∷ length_test n s gives 2 ∷ l

-- what every call that alters a sheet looks for first: the same
abbrev pub altering : ℕ → Lent → Conditions → Conditions
altering = sized

abbrev pub altering_tests : ℕ → Lent → Tests → Tests
altering_tests = sized_tests
