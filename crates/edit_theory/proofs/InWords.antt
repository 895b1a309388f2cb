-- WHAT THIS CRATE'S DEFINITIONS SAY, spelled out in document 01's words: by which conditions an edit is refused, on any sheet and on a
-- valid one, and what an accepted edit leaves of each word. A definition that is changed, together with the code that follows it, fails
-- here. Assumes nothing.
use mathlib.Core.Path.{◌≡◌, refl, ap, ◌∙◌}
use mathlib.Core.Logic.{◌⊎◌, inl, inr, ◌↔◌}
use mathlib.Core.Bool.{Bool, true, false, cond}
use mathlib.Core.List.{[], ◌∷◌}
use Prim.Native.Nat.{ℕ, ◌+◌, ◌*◌, ◌%◌, ◌^◌, ◌≤◌, ◌<◌}
use native.Mathlib.Omega.{arith}
use lib.ListN.{length, get_or}
use Rattle.sums.specs.Sum.{sum, delta}
use Rattle.word.specs.Bit.{bit}
use Rattle.word.proofs.BitLaws.{bit_lt}
use Rattle.word.proofs.WrapLaws.{minus_lt, minus_add}
use Rattle.graph.specs.Graph.{Cycle}
use Rattle.graph.specs.Update.{from_sum, to_sum, Closes, into, out, through}
use Rattle.graph.proofs.Walks.{cycle_widen}
use Rattle.answer.specs.Table.{◌gives◌, Conditions, First}
use Rattle.answer.proofs.TableLaws.{reflects_false, first_both, first_under}
use Rattle.sheet_theory.specs.Layout.{size}
use Rattle.sheet_theory.specs.Lent.{Lent}
use Rattle.sheet_theory.specs.Conditions.{altering}
use Rattle.sheet_theory.specs.Valid.{Valid}
use Rattle.sheet_theory.proofs.ShapeLaws.{length_good, accepted_shape}
use Rattle.sheet_theory.proofs.LayoutLaws.{length_redone, row_redone, count_redone}
use Rattle.sheet_theory.proofs.InWords.{edge, count, ones, Stray, set_bits_words}
use Rattle.edit_theory.specs.Edit.{Edges, one, at, Edit, insert_edge, delete_edge, insert_edges_at, delete_edges_at}
use Rattle.edit_theory.specs.Edit.{vertex_of, predecessors_of, successors_of, named_at, named, marked, changed}
use Rattle.edit_theory.specs.Book.{opened}
use Rattle.edit_theory.specs.Table.{SomeEdge, argued, most_parallel, Grounds, effects, asked}
use Rattle.edit_theory.specs.Model.{model_grounds}
use Rattle.edit_theory.specs.Outcome.{edited_by, edited_count, edited, edit_grounds, edit_number, edit_made, edit_answer, edit_after}
use Rattle.edit_theory.proofs.TestLaws.{named_reflects}
use Rattle.edit_theory.proofs.NamedLaws.{named_edge}
use Rattle.edit_theory.proofs.EditedRow.{bit_edited, edited_lt}
use Rattle.edit_theory.proofs.FreshLaws.{valid_modelled}
use Rattle.edit_theory.proofs.Refusals.{edit_first, edit_table}
use Rattle.edit_theory.proofs.StepLaws.{number_first}

-- the edit of the edges g
abbrev edit : ℕ → Edges → Bool → Edit
edit n g inserts = record { inserts = inserts; vertices = n; edges = g }

-- ---- at v, with the masks A of the vertices from which an edge runs to v, and B of those to which an edge runs from v

module _ (n : ℕ) (s : Lent) (v A B : ℕ) where
  -- the edge from i to j is one of the edit's, and some edge of the edit is a P
  abbrev Named : ℕ → ℕ → Type 0
  Named i j = ((bit A i ≡ 1) × (j ≡ v)) ⊎ ((i ≡ v) × (bit B j ≡ 1))

  abbrev SomeNamed : (ℕ → ℕ → Type 0) → Type 0
  SomeNamed P = (i : ℕ) × (j : ℕ) × (i < n) × (j < n) × Named i j × P i j

  -- F(i) and T(j) of document 01, by the counts before the edit
  abbrev F : ℕ → ℕ
  F i = sum n (λ a. bit A a * count n s i a)

  abbrev T : ℕ → ℕ
  T j = sum n (λ b. bit B b * count n s b j)

  -- a cycle by the counts: from v to a predecessor, from a successor to v, or from a successor to a predecessor
  abbrev CycleByCounts : Type 0
  CycleByCounts =
      ((a : ℕ) × (a < n) × (bit A a ≡ 1) × (¬ (count n s v a ≡ 0)))
      ⊎ ((b : ℕ) × (b < n) × (bit B b ≡ 1) × (¬ (count n s b v ≡ 0)))
      ⊎ ((a : ℕ) × (b : ℕ) × (a < n) × (b < n) × (bit A a ≡ 1) × (bit B b ≡ 1) × (¬ (count n s b a ≡ 0)))

  -- a cycle among the edges of the sheet and all those of the edit together
  abbrev CycleByEdges : Type 0
  CycleByEdges = Cycle n (λ i j. edge s i j + bit A i * delta j v + delta i v * bit B j)

  -- 5, 6 and 8 of an insertion, where c says what a cycle is, and 7 of a deletion
  abbrev inserting : Type 0 → Conditions
  inserting c = SomeNamed (λ i j. i ≡ j) gives 5 ∷ SomeNamed (λ i j. edge s i j ≡ 1) gives 6 ∷ c gives 8 ∷ []

  abbrev deleting : Conditions
  deleting = SomeNamed (λ i j. edge s i j ≡ 0) gives 7 ∷ []

  some_iff : (P Q : ℕ → ℕ → Type 0) → ((i j : ℕ) → P i j ↔ Q i j) → SomeEdge n (at v A B) P ↔ SomeNamed Q
  some_iff P Q h = (
    λ c. (c.0, c.2, c.1, c.3, (named_reflects v A B c.0 c.2).holds c.4, (h c.0 c.2).0 c.5),
    λ c. (c.0, c.2, c.1, c.3, (named_reflects v A B c.0 c.1).shows c.4, (h c.0 c.1).1 c.5),
  )

  closing_of : Closes n (count n s) v (bit A) (bit B) → CycleByCounts
  closing_of (into a h p c) = inl (a, h, omega (arith, bit_lt A a), λ z. omega arith)
  closing_of (out b h p c) = inr (inl (b, h, omega (arith, bit_lt B b), λ z. omega arith))
  closing_of (through a b ha hb p q c) = inr (inr (a, b, ha, hb, omega (arith, bit_lt A a), omega (arith, bit_lt B b), λ z. omega arith))

  of_closing : CycleByCounts → Closes n (count n s) v (bit A) (bit B)
  of_closing (inl (a, h, p, c)) = into a h (omega arith) (omega arith)
  of_closing (inr (inl (b, h, p, c))) = out b h (omega arith) (omega arith)
  of_closing (inr (inr (a, b, ha, hb, p, q, c))) = through a b ha hb (omega arith) (omega arith) (omega arith)

  closed_iff : Cycle n (λ i j. changed true (named_at v A B i j) (edge s i j)) ↔ CycleByEdges
  closed_iff = (
    cycle_widen n _ _ (λ i j hi hj p. (named_edge v A B i j (edge s i j)).0 p),
    cycle_widen n _ _ (λ i j hi hj p. (named_edge v A B i j (edge s i j)).1 p),
  )

  inserting_of : (grounds : Grounds) (c : Type 0) (k : ℕ) → grounds.closed ↔ c
      → First (effects true n most_parallel (at v A B) (opened n s) grounds) k → First (inserting c) k
  inserting_of grounds c k h =
      first_both (some_iff _ _ (λ i j. (λ p. p, λ p. p)))
      (first_both (some_iff (λ i j. 1 ≤ edge s i j) (λ i j. edge s i j ≡ 1) (λ i j. (λ p. omega (arith, bit_lt (get_or s.words i 0) j), λ p. omega arith)))
      (first_both h (λ f. f)))

  deleting_of : (grounds : Grounds) (k : ℕ) → First (effects false n most_parallel (at v A B) (opened n s) grounds) k → First deleting k
  deleting_of grounds k = first_both (some_iff _ _ (λ i j. (λ p. p, λ p. p))) (λ f. f)

-- ---- the conditions from 1 on, of the edges g

module _ (n : ℕ) (s : Lent) where
  -- after 1, 2, 3 and 4 those that follow may be changed for others that give the same number
  argued_under : (g : Edges) (cs ds : Conditions) (k : ℕ) → (First cs k → First ds k) → First (altering n s (argued n g cs)) k → First (altering n s (argued n g ds)) k
  argued_under (one u v) cs ds k = first_under (altering n s (argued n (one u v) [])) cs ds k
  argued_under (at v a b) cs ds k = first_under (altering n s (argued n (at v a b) [])) cs ds k

  module _ (g : Edges) where
    abbrev v : ℕ
    v = vertex_of g

    abbrev A : ℕ
    A = predecessors_of g

    abbrev B : ℕ
    B = successors_of g

    insertion_first : First (altering n s (argued n g (inserting n s v A B (CycleByCounts n s v A B)))) (edit_number (edit n g true) s)
    insertion_first =
        let grounds = edit_grounds (edit n g true) s in
        argued_under g (effects true n most_parallel g (opened n s) grounds) (inserting n s v A B (CycleByCounts n s v A B)) _
        (inserting_of n s v A B grounds (CycleByCounts n s v A B) _ (closing_of n s v A B, of_closing n s v A B))
        (edit_first (edit n g true) s).first

    deletion_first : First (altering n s (argued n g (deleting n s v A B))) (edit_number (edit n g false) s)
    deletion_first =
        let grounds = edit_grounds (edit n g false) s in
        argued_under g (effects false n most_parallel g (opened n s) grounds) (deleting n s v A B) _
        (deleting_of n s v A B grounds _) (edit_first (edit n g false) s).first

    -- a valid sheet has the number of words, and the model that it opens the number of vertices
    insertion_valid : Valid n s → First (altering n s (argued n g (inserting n s v A B (CycleByEdges n s v A B)))) (edit_number (edit n g true) s)
    insertion_valid valid =
        let grounds = model_grounds (opened n s) (edit n g true) in
        argued_under g (effects true n most_parallel g (opened n s) grounds) (inserting n s v A B (CycleByEdges n s v A B)) _
        (inserting_of n s v A B grounds (CycleByEdges n s v A B) _ (closed_iff n s v A B))
        (first_both (λ p. p, λ p. p) (first_both (λ d. absurd (d refl), λ d. absurd (length_good n s valid.shape.long d)) (λ f. f))
        (number_first (opened n s) s (valid_modelled valid) (edit n g true)))

  -- ---- THE CONDITIONS of the four edits

  -- one edge from u to v is at u, with A empty and B = {v}; on any sheet a cycle is one by the counts
  pub insert_words : (u v : ℕ)
      → First (altering n s (((n ≤ u) ⊎ (n ≤ v)) gives 3 ∷ inserting n s u 0 (2 ^ v) (CycleByCounts n s u 0 (2 ^ v)))) (edit_answer (insert_edge n u v) s).number
  insert_words u v = insertion_first (one u v)

  pub delete_words : (u v : ℕ) → First (altering n s (((n ≤ u) ⊎ (n ≤ v)) gives 3 ∷ deleting n s u 0 (2 ^ v))) (edit_answer (delete_edge n u v) s).number
  delete_words u v = deletion_first (one u v)

  pub insert_at_words : (v A B : ℕ)
      → First (altering n s ((n ≤ v) gives 3 ∷ (Stray n A ⊎ Stray n B) gives 4 ∷ inserting n s v A B (CycleByCounts n s v A B))) (edit_answer (insert_edges_at n v A B) s).number
  insert_at_words v A B = insertion_first (at v A B)

  pub delete_at_words : (v A B : ℕ)
      → First (altering n s ((n ≤ v) gives 3 ∷ (Stray n A ⊎ Stray n B) gives 4 ∷ deleting n s v A B)) (edit_answer (delete_edges_at n v A B) s).number
  delete_at_words v A B = deletion_first (at v A B)

  -- on a valid sheet it is one by the edges
  module _ (valid : Valid n s) where
    pub insert_valid_words : (u v : ℕ)
        → First (altering n s (((n ≤ u) ⊎ (n ≤ v)) gives 3 ∷ inserting n s u 0 (2 ^ v) (CycleByEdges n s u 0 (2 ^ v)))) (edit_answer (insert_edge n u v) s).number
    insert_valid_words u v = insertion_valid (one u v) valid

    pub insert_at_valid_words : (v A B : ℕ)
        → First (altering n s ((n ≤ v) gives 3 ∷ (Stray n A ⊎ Stray n B) gives 4 ∷ inserting n s v A B (CycleByEdges n s v A B))) (edit_answer (insert_edges_at n v A B) s).number
    insert_at_valid_words v A B = insertion_valid (at v A B) valid

  -- ---- AN ACCEPTED EDIT of the edges g, on any sheet

  module _ (inserts : Bool) (g : Edges) (z : (edit_answer (edit n g inserts) s).number ≡ 0) where
    abbrev after : Lent
    after = edit_after (edit n g inserts) s

    long : length s.words ≡ size n
    long =
        (accepted_shape n s (asked (edit n g inserts) most_parallel (opened n s) (edit_grounds (edit n g inserts) s))
        ((edit_table (edit n g inserts) s 0).0 z)).long

    edited_bit : (i j : ℕ) → i < n → j < 64 → edge after i j ≡ marked inserts (named g i j) (edge s i j)
    unfolding edited
    edited_bit i j hi hj = rw z (ap (λ x. bit x j) (row_redone n _ _ s.words long i hi) ∙ bit_edited inserts s.words (v g) (A g) (B g) i j hj)

    edited_count_lem : (i j : ℕ) → i < n → j < n → count n after i j ≡ edited_count inserts n s.words (v g) (A g) (B g) i j
    unfolding edited
    edited_count_lem i j hi hj = rw z (count_redone n _ _ s.words long i j hi hj)

    -- as many words as before, and each row is a word
    pub edit_length_words : length after.words ≡ length s.words
    unfolding edited
    edit_length_words = rw z (length_redone n _ _ s.words)

    pub edit_row_words : (i : ℕ) → i < n → get_or after.words i 0 < 2 ^ 64
    unfolding edited
    edit_row_words i hi = rw (z, row_redone n _ _ s.words long i hi) (edited_lt inserts s.words (v g) (A g) (B g) i)

    -- the bits of its edges are 1 after an insertion and 0 after a deletion, and all others, at n or above too, are as they were
    pub edit_named_words : (i j : ℕ) → i < n → j < 64 → Named n s (v g) (A g) (B g) i j → edge after i j ≡ cond inserts 1 0
    edit_named_words i j hi hj p = edited_bit i j hi hj ∙ ap (λ t. marked inserts t (edge s i j)) ((named_reflects (v g) (A g) (B g) i j).shows p)

    pub edit_others_words : (i j : ℕ) → i < n → j < 64 → ¬ (Named n s (v g) (A g) (B g) i j) → edge after i j ≡ edge s i j
    edit_others_words i j hi hj d =
        edited_bit i j hi hj ∙ ap (λ t. marked inserts t (edge s i j)) ((reflects_false (named_reflects (v g) (A g) (B g) i j)).1 d)

    -- the value is the number of set bits in all rows afterwards
    pub edit_value_words : (edit_answer (edit n g inserts) s).value ≡ ones n after
    edit_value_words = rw z (set_bits_words n (edit_made (edit n g inserts) s))

  module _ (g : Edges) (i j : ℕ) (hi : i < n) (hj : j < n) where
    abbrev C : ℕ → ℕ → ℕ
    C = count n s

    abbrev Fi : ℕ
    Fi = F n s (v g) (A g) (B g) i

    abbrev Tj : ℕ
    Tj = T n s (v g) (A g) (B g) j

    -- an insertion adds to a count, modulo 2 ^ 64
    pub insert_count_words : (edit_answer (edit n g true) s).number ≡ 0
        → count n (edit_after (edit n g true) s) i j ≡ (C i j + (C i (v g) * Tj + Fi * C (v g) j + Fi * Tj)) % 2 ^ 64
    unfolding edited_count edited_by from_sum to_sum
    insert_count_words z = edited_count_lem true g z i j hi hj

    -- and a deletion subtracts from it: the count is a word that with the difference added again is as before, modulo 2 ^ 64
    pub delete_count_words : (edit_answer (edit n g false) s).number ≡ 0
        → (count n (edit_after (edit n g false) s) i j < 2 ^ 64)
        × ((count n (edit_after (edit n g false) s) i j + (C i (v g) * Tj + Fi * C (v g) j)) % 2 ^ 64 ≡ (C i j + Fi * Tj) % 2 ^ 64)
    unfolding edited_count edited_by from_sum to_sum
    delete_count_words z = rw (edited_count_lem false g z i j hi hj) (minus_lt _ _, minus_add _ _)
