-- What the public calls answer and leave, for every n and all words. Definitions only. Assumes nothing.
use Rattle.std.specs.Prelude.{[], ℕ}
use Rattle.answer.specs.declared.Answer.{Answer}
use Rattle.answer.specs.Table.{Conditions, first_true}
use Rattle.answer.specs.Answers.{decided, answered}
use Rattle.sheet_theory.specs.Layout.{count_at}
use Rattle.sheet_theory.specs.Lent.{Lent, empty_lent}
use Rattle.sheet_theory.specs.Conditions.{vertex_conditions, vertex_tests, sized, sized_tests, altering, altering_tests}

-- ---- empty: an empty sheet

abbrev pub empty_conditions : ℕ → Lent → Conditions
empty_conditions n s = altering n s []

abbrev pub empty_number : ℕ → Lent → ℕ
empty_number n s = first_true (altering_tests n s [])

abbrev pub empty_answer : ℕ → Lent → Answer
empty_answer n s = answered (empty_number n s) 0

abbrev pub empty_after : ℕ → Lent → Lent
empty_after n s = decided (empty_number n s) (empty_lent n) s

-- ---- path_count: the count from i to j, as it stands in the sheet

abbrev pub path_count_conditions : ℕ → Lent → ℕ → ℕ → Conditions
path_count_conditions n s i j = sized n s (vertex_conditions n i j [])

abbrev pub path_count_number : ℕ → Lent → ℕ → ℕ → ℕ
path_count_number n s i j = first_true (sized_tests n s (vertex_tests n i j []))

abbrev pub path_count_answer : ℕ → Lent → ℕ → ℕ → Answer
path_count_answer n s i j = answered (path_count_number n s i j) (count_at n s.words i j)
