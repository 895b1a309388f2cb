-- What an edit answers and leaves, for every edit and all words, valid or not: what the contracts of the four calls cite. Definitions
-- only. Assumes nothing.
use Rattle.std.specs.Prelude.{Bool, true, false, ◌&&◌, ◌||◌, List, [], ◌∷◌, ℕ, zero, suc, ◌+◌, ◌*◌, ◌%◌, ◌^◌, ltb, leb, eqb}
use Rattle.word.specs.Bit.{bit, has_bit, of_bits}
use Rattle.word.specs.Wrap.{minus}
use Rattle.graph.specs.Update.{from_sum, to_sum, Closes}
use Rattle.answer.specs.declared.Answer.{Answer}
use Rattle.answer.specs.Table.{◌gives◌, Conditions, Tests, first_true}
use Rattle.answer.specs.Answers.{decided, answered}
use Rattle.sheet_theory.specs.Layout.{count_at, edge_at, set_bits, redone}
use Rattle.sheet_theory.specs.Lent.{Lent, lent}
use Rattle.sheet_theory.specs.Conditions.{BadLength, vertex_tests, altering_tests}
use Rattle.edit_theory.specs.Edit.{Edges, one, at, Edit, vertex_of, predecessors_of, successors_of, named_at, named, marked}
use Rattle.edit_theory.specs.Book.{Model, opened}
use Rattle.edit_theory.specs.Table.{most_parallel, Grounds, table}

-- ---- the refusals

-- whether f is true of some number below n
unfoldable pub some : ℕ → (ℕ → Bool) → Bool
some zero f = false
some (suc n) f = some n f || f n

-- 3 and 4, and then the tests l
abbrev pub argued_tests : ℕ → Edges → Tests → Tests
argued_tests n (one u v) l = vertex_tests n u v l
argued_tests n (at v a b) l = leb n v gives 3 ∷ (leb (2 ^ n) a || leb (2 ^ n) b) gives 4 ∷ l

-- whether f is true of some of the edges g
unfoldable pub some_edge : ℕ → Edges → (ℕ → ℕ → Bool) → Bool
some_edge n g f = some n (λ i. some n (λ j. named g i j && f i j))

-- 5 and 6 of an insertion, 7 of a deletion, and then the tests l
abbrev pub clash_tests : Bool → ℕ → ℕ → Edges → Model → Tests → Tests
clash_tests true n most g m l = some_edge n g eqb gives 5 ∷ some_edge n g (λ i j. leb most (m.edge i j)) gives 6 ∷ l
clash_tests false n most g m l = some_edge n g (λ i j. eqb (m.edge i j) 0) gives 7 ∷ l

-- 8, of an insertion alone
abbrev pub ending_tests : Bool → Bool → Tests
ending_tests true closed = closed gives 8 ∷ []
ending_tests false closed = []

-- whether the counts show a path that the edges at v would close to a cycle: from v to a predecessor, from a successor to v, or from a
-- successor to a predecessor
unfoldable pub closes : ℕ → List ℕ → ℕ → ℕ → ℕ → Bool
closes n s v a b =
    some n (λ k. has_bit a k && ltb 0 (count_at n s v k))
    || (some n (λ k. has_bit b k && ltb 0 (count_at n s k v))
    || some n (λ i. has_bit b i && some n (λ j. has_bit a j && ltb 0 (count_at n s i j))))

-- ---- the words

-- row i, bit by bit
unfoldable pub edited_row : Bool → List ℕ → ℕ → ℕ → ℕ → ℕ → ℕ
edited_row inserts s v a b i = of_bits (λ j. marked inserts (named_at v a b i j) (edge_at s i j))

-- what becomes of the count c, modulo 2 ^ 64, where x is the count from i to v, y that from v to j, and F and T are those of document 01
unfoldable pub edited_by : Bool → ℕ → ℕ → ℕ → ℕ → ℕ → ℕ
edited_by true c x y F T = (c + (x * T + F * y + F * T)) % 2 ^ 64
edited_by false c x y F T = minus (c + F * T) (x * T + F * y)

-- the count from i to j, by the counts from before the edit
unfoldable pub edited_count : Bool → ℕ → List ℕ → ℕ → ℕ → ℕ → ℕ → ℕ → ℕ
edited_count inserts n s v a b i j =
    let C = count_at n s in
    edited_by inserts (C i j) (C i v) (C v j) (from_sum n C (bit a) i) (to_sum n C (bit b) j)

unfoldable pub edited : Bool → ℕ → List ℕ → ℕ → ℕ → ℕ → List ℕ
edited inserts n s v a b = redone n (edited_row inserts s v a b) (edited_count inserts n s v a b) s

-- ---- the calls

module _ (e : Edit) (s : Lent) where
  -- the conditions on s; whether a cycle would close is judged by the counts
  abbrev pub edit_grounds : Grounds
  edit_grounds = record {
    other = BadLength e.vertices s;
    closed = Closes e.vertices (count_at e.vertices s.words) (vertex_of e.edges) (bit (predecessors_of e.edges)) (bit (successors_of e.edges));
  }

  abbrev pub edit_conditions : Conditions
  edit_conditions = table e most_parallel (opened e.vertices s) edit_grounds

  abbrev pub edit_tests : Tests
  edit_tests =
      altering_tests e.vertices s
      (argued_tests e.vertices e.edges
      (clash_tests e.inserts e.vertices most_parallel e.edges (opened e.vertices s)
      (ending_tests e.inserts (closes e.vertices s.words (vertex_of e.edges) (predecessors_of e.edges) (successors_of e.edges)))))

  abbrev pub edit_number : ℕ
  edit_number = first_true edit_tests

  abbrev pub edit_words : List ℕ
  edit_words = edited e.inserts e.vertices s.words (vertex_of e.edges) (predecessors_of e.edges) (successors_of e.edges)

  abbrev pub edit_made : Lent
  edit_made = lent edit_words

  -- what e answers on s
  abbrev pub edit_answer : Answer
  edit_answer = answered edit_number (set_bits e.vertices edit_words)

  -- what e leaves of s
  abbrev pub edit_after : Lent
  edit_after = decided edit_number edit_made s
