-- THE STATEMENT of document 01's starred rows, all eleven together, in its order (clause d). Definitions only. Assumes nothing.
use Rattle.std.specs.Prelude.{◌≡◌, List, [], ◌∷◌, ℕ, ◌^◌, length}
use Rattle.text.specs.Text.{written}
use Rattle.answer.specs.Answers.{answer}
use Rattle.sheet_theory.specs.Lent.{Lent}
use Rattle.sheet_theory.specs.Calls.{path_count_answer}
use Rattle.edit_theory.specs.Edit.{Edit, insert_edge, insert_edges_at, delete_edges_at}
use Rattle.edit_theory.specs.Outcome.{edit_answer, edit_after}
use Rattle.query_theory.specs.ReachesWithout.{reaches_without_answer}
use Rattle.query_theory.specs.Unrank.{unrank_answer, unrank_after}
use Rattle.query_theory.specs.Rank.{rank_answer}

-- the edit is refused by k, and no word is changed
abbrev pub EditRefused : Edit → Lent → ℕ → Type 0
EditRefused e s k = (edit_answer e s ≡ answer k 0 0) × (edit_after e s ≡ s)

-- the path from i to j of rank k on the sheet s of n vertices is p: it is written to the first bytes of the buffer, and the value says
-- how many they are
abbrev pub PathIs : ℕ → Lent → ℕ → ℕ → ℕ → List ℕ → List ℕ → Type 0
PathIs n s i j k p buffer = (unrank_answer n s i j k (length buffer) ≡ answer 0 0 (length p)) × (unrank_after n s i j k buffer ≡ written p buffer)

-- the edges at 4 from 1 and to 3 (document 01: at 4, A = {1}, B = {3}), laid and lifted
abbrev pub insertion : Edit
insertion = insert_edges_at 5 4 (2 ^ 1) (2 ^ 3)

abbrev pub deletion : Edit
deletion = delete_edges_at 5 4 (2 ^ 1) (2 ^ 3)

-- of e, the empty sheet of one vertex; of d, the sheet of D; and of a buffer for a path
pub record Starred (e d : Lent) (buffer : List ℕ) : Type 0 where
  -- n = 1, empty: count(0, 0) is 1
  pub alone : path_count_answer 1 e 0 0 ≡ answer 0 0 1
  -- insertion 0 to 0: 5
  pub loop : EditRefused (insert_edge 1 0 0) e 5
  -- D: count(0, 3) is 2
  pub count : path_count_answer 5 d 0 3 ≡ answer 0 0 2
  -- route 0 is 0, 1, 3
  pub path0 : PathIs 5 d 0 3 0 (0 ∷ 1 ∷ 3 ∷ []) buffer
  -- route 1 is 0, 2, 3, and its rank is 1
  pub path1 : PathIs 5 d 0 3 1 (0 ∷ 2 ∷ 3 ∷ []) buffer × (rank_answer 5 d (0 ∷ 2 ∷ 3 ∷ []) ≡ answer 0 0 1)
  -- route 2: 11, and no byte is changed
  pub path2 : (unrank_answer 5 d 0 3 2 (length buffer) ≡ answer 11 0 0) × (unrank_after 5 d 0 3 2 buffer ≡ buffer)
  -- D, lay 3 to 0: 8
  pub cycle : EditRefused (insert_edge 5 3 0) d 8
  -- at station 4, A = {3}, B = {0}: 8
  pub cycle_at : EditRefused (insert_edges_at 5 4 (2 ^ 3) (2 ^ 0)) d 8
  -- D, at 4, A = {1}, B = {3}: count(0, 3) becomes 3; deletion both restores D
  pub third : (edit_answer insertion d ≡ answer 0 0 6) × (path_count_answer 5 (edit_after insertion d) 0 3 ≡ answer 0 0 3)
      × (edit_answer deletion (edit_after insertion d) ≡ answer 0 0 4) × (edit_after deletion (edit_after insertion d) ≡ d)
  -- D: supply 0 to 3 without 0 to 1 is 1
  pub other : reaches_without_answer 5 d 0 3 0 1 ≡ answer 0 0 1
  -- 0 to 1 without it is 0
  pub none : reaches_without_answer 5 d 0 1 0 1 ≡ answer 0 0 0
