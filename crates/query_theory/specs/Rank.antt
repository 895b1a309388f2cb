-- `rank`: the rank of a path among those between its ends (document 01: the number of a route): its conditions by the table of
-- document 01, in their order, and its answer. Definitions only. Assumes nothing.
use Rattle.std.specs.Prelude.{◌≡◌, ◌⊎◌, Bool, false, ◌||◌, List, [], ◌∷◌, ℕ, ◌%◌, ◌^◌, ◌<◌, ltb, leb, eqb, length}
use Rattle.graph.specs.Graph.{◌is_in◌}
use Rattle.answer.specs.declared.Answer.{Answer}
use Rattle.answer.specs.Table.{◌gives◌, Conditions, Tests, first_true}
use Rattle.answer.specs.Answers.{answered}
use Rattle.sheet_theory.specs.Layout.{count_at, edge_at}
use Rattle.sheet_theory.specs.Lent.{Lent}
use Rattle.sheet_theory.specs.Conditions.{NoVertex, sized, sized_tests}
use Rattle.query_theory.specs.PassedOver.{passed_over, end}

-- 3: some entry of the list, wherever it stands, is n or more
abbrev pub SomeNoVertex : ℕ → List ℕ → Type 0
SomeNoVertex n p = (x : ℕ) × (x is_in p) × NoVertex n x

unfoldable pub some_no_vertex : ℕ → List ℕ → Bool
some_no_vertex n [] = false
some_no_vertex n (x ∷ p) = leb n x || some_no_vertex n p

-- no edge runs from some entry to the next
abbrev pub Gap : List ℕ → List ℕ → Type 0
Gap s [] = ⊥
Gap s (x ∷ []) = ⊥
Gap s (x ∷ y ∷ p) = (edge_at s x y ≡ 0) ⊎ Gap s (y ∷ p)

unfoldable pub gap : List ℕ → List ℕ → Bool
gap s [] = false
gap s (x ∷ []) = false
gap s (x ∷ y ∷ p) = eqb (edge_at s x y) 0 || gap s (y ∷ p)

-- 12: no vertices, more than n, or two neighbours without an edge
abbrev pub Broken : ℕ → List ℕ → List ℕ → Type 0
Broken n s p = (length p ≡ 0) ⊎ (n < length p) ⊎ Gap s p

unfoldable pub broken : ℕ → List ℕ → List ℕ → Bool
broken n s p = eqb (length p) 0 || (ltb n (length p) || gap s p)

-- of a path as it is given
abbrev pub path_conditions : ℕ → Lent → List ℕ → Conditions
path_conditions n s p = SomeNoVertex n p gives 3 ∷ Broken n s.words p gives 12 ∷ []

abbrev pub path_tests : ℕ → Lent → List ℕ → Tests
path_tests n s p = some_no_vertex n p gives 3 ∷ broken n s.words p gives 12 ∷ []

abbrev pub rank_conditions : ℕ → Lent → List ℕ → Conditions
rank_conditions n s p = sized n s (path_conditions n s p)

abbrev pub rank_number : ℕ → Lent → List ℕ → ℕ
rank_number n s p = first_true (sized_tests n s (path_tests n s p))

-- the sum of the counts to the end of the path that are passed over on it, over a sheet as it stands
abbrev pub path_rank : ℕ → List ℕ → List ℕ → ℕ
path_rank n s p = passed_over (edge_at s) (count_at n s) (end p) p

abbrev pub rank_answer : ℕ → Lent → List ℕ → Answer
rank_answer n s p = answered (rank_number n s p) (path_rank n s.words p % 2 ^ 64)
