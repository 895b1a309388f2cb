-- `reaches_without`: whether there is a path from i to j without the edge from u to v (document 01: supply without a pipe): its
-- conditions by the table of document 01, in their order, and its answer. Definitions only. Assumes nothing.
use Rattle.std.specs.Prelude.{◌≡◌, cond, List, [], ◌∷◌, ℕ, ◌*◌, ◌%◌, ◌^◌, eqb}
use Rattle.graph.specs.Graph.{IsPath}
use Rattle.graph.specs.Uses.{Uses, one_edge}
use Rattle.answer.specs.declared.Answer.{Answer}
use Rattle.answer.specs.Table.{◌gives◌, Conditions, Tests, first_true}
use Rattle.answer.specs.Answers.{answered}
use Rattle.sheet_theory.specs.Layout.{count_at}
use Rattle.sheet_theory.specs.Lent.{Lent, mult_at}
use Rattle.sheet_theory.specs.Conditions.{vertex_conditions, vertex_tests, sized, sized_tests}

-- 7: the edge is not there
abbrev pub edge_conditions : ℕ → Lent → ℕ → ℕ → Conditions
edge_conditions n s u v = (mult_at n s u v ≡ 0) gives 7 ∷ []

abbrev pub edge_tests : ℕ → Lent → ℕ → ℕ → Tests
edge_tests n s u v = eqb (mult_at n s u v) 0 gives 7 ∷ []

-- 3 is looked for in i and j, then in u and v
abbrev pub reaches_without_conditions : ℕ → Lent → ℕ → ℕ → ℕ → ℕ → Conditions
reaches_without_conditions n s i j u v = sized n s (vertex_conditions n i j (vertex_conditions n u v (edge_conditions n s u v)))

abbrev pub reaches_without_number : ℕ → Lent → ℕ → ℕ → ℕ → ℕ → ℕ
reaches_without_number n s i j u v = first_true (sized_tests n s (vertex_tests n i j (vertex_tests n u v (edge_tests n s u v))))

-- the product of the counts from i to u and from v to j, modulo 2 ^ 64
abbrev pub product : ℕ → List ℕ → ℕ → ℕ → ℕ → ℕ → ℕ
product n s i j u v = count_at n s i u * count_at n s v j % 2 ^ 64

-- 1 if the product differs from the count from i to j, else 0
unfoldable pub reaches_without : ℕ → Lent → ℕ → ℕ → ℕ → ℕ → ℕ
reaches_without n s i j u v = cond (eqb (product n s.words i j u v) (count_at n s.words i j)) 0 1

abbrev pub reaches_without_answer : ℕ → Lent → ℕ → ℕ → ℕ → ℕ → Answer
reaches_without_answer n s i j u v = answered (reaches_without_number n s i j u v) (reaches_without n s i j u v)

-- what the value tells on a valid sheet: there is a path from i to j that does not use the edge from u to v
abbrev pub PathWithout : ℕ → Lent → ℕ → ℕ → ℕ → ℕ → Type 0
PathWithout n s i j u v = (l : List ℕ) × IsPath n (mult_at n s) i j l × (¬ (Uses (one_edge u v) l))
