-- `unrank`: the path from i to j of rank k, written to a buffer (document 01: a route by number): its conditions by the table of
-- document 01, in their order, its answer, and the buffer after it. Definitions only. Assumes nothing.
use Rattle.std.specs.Prelude.{◌≡◌, List, [], ◌∷◌, ℕ, ◌≤◌, ◌<◌, ltb, leb, eqb, length, take}
use Rattle.text.specs.Text.{written}
use Rattle.answer.specs.declared.Answer.{Answer}
use Rattle.answer.specs.Table.{◌gives◌, Conditions, Tests, first_true}
use Rattle.answer.specs.Answers.{decided, answered}
use Rattle.sheet_theory.specs.Layout.{count_at, edge_at}
use Rattle.sheet_theory.specs.Lent.{Lent}
use Rattle.sheet_theory.specs.Conditions.{vertex_conditions, vertex_tests, sized, sized_tests}
use Rattle.query_theory.specs.Walk.{walked}

-- the walk from i to j by the rank k, over a sheet as it stands, of at most n vertices
abbrev pub walk : ℕ → List ℕ → ℕ → ℕ → ℕ → List ℕ
walk n s i j k = walked (edge_at s) (count_at n s) j n n i k

-- of a buffer of len bytes and a rank k, and then the conditions l. 10: the buffer is under n bytes. 11: k is not below the count.
abbrev pub buffer_conditions : ℕ → Lent → ℕ → ℕ → ℕ → ℕ → Conditions → Conditions
buffer_conditions n s i j k len l = (len < n) gives 10 ∷ (count_at n s.words i j ≤ k) gives 11 ∷ l

abbrev pub buffer_tests : ℕ → Lent → ℕ → ℕ → ℕ → ℕ → Tests → Tests
buffer_tests n s i j k len l = ltb len n gives 10 ∷ leb (count_at n s.words i j) k gives 11 ∷ l

-- 9: no edge fits, n vertices without arriving, or k not 0 on arriving
abbrev pub walk_conditions : ℕ → Lent → ℕ → ℕ → ℕ → Conditions
walk_conditions n s i j k = (walk n s.words i j k ≡ []) gives 9 ∷ []

abbrev pub walk_tests : ℕ → Lent → ℕ → ℕ → ℕ → Tests
walk_tests n s i j k = eqb (length (walk n s.words i j k)) 0 gives 9 ∷ []

abbrev pub unrank_conditions : ℕ → Lent → ℕ → ℕ → ℕ → ℕ → Conditions
unrank_conditions n s i j k len = sized n s (vertex_conditions n i j (buffer_conditions n s i j k len (walk_conditions n s i j k)))

abbrev pub unrank_number : ℕ → Lent → ℕ → ℕ → ℕ → ℕ → ℕ
unrank_number n s i j k len = first_true (sized_tests n s (vertex_tests n i j (buffer_tests n s i j k len (walk_tests n s i j k))))

abbrev pub unrank_answer : ℕ → Lent → ℕ → ℕ → ℕ → ℕ → Answer
unrank_answer n s i j k len = answered (unrank_number n s i j k len) (length (walk n s.words i j k))

abbrev pub unrank_after : ℕ → Lent → ℕ → ℕ → ℕ → List ℕ → List ℕ
unrank_after n s i j k buffer = decided (unrank_number n s i j k (length buffer)) (written (walk n s.words i j k) buffer) buffer

-- what the call wrote: as many of the first bytes as the value says
abbrev pub wrote : ℕ → Lent → ℕ → ℕ → ℕ → List ℕ → List ℕ
wrote n s i j k buffer = take (unrank_answer n s i j k (length buffer)).value (unrank_after n s i j k buffer)
