-- The four edits of `EveryCall`, for all n and s, from the laws of edit_theory. One edge and masks differ only in their vertex, their masks
-- and the conditions before 5 and 7. Assumes nothing.
use mathlib.Core.Path.{◌≡◌, refl, ap}
use mathlib.Core.Logic.{◌⊎◌}
use mathlib.Core.Bool.{Bool, true, false, cond}
use mathlib.Core.List.{[], ◌∷◌}
use Prim.Native.Nat.{ℕ, ◌+◌, ◌*◌, ◌^◌, ◌≤◌, ◌<◌}
use Rattle.sums.specs.Sum.{delta}
use Rattle.word.specs.Bit.{bit}
use Rattle.graph.specs.Graph.{Cycle}
use Rattle.answer.specs.declared.Answer.{Answer}
use Rattle.answer.specs.Table.{◌gives◌, Conditions, First}
use Rattle.sheet_theory.specs.Lent.{Lent}
use Rattle.sheet_theory.specs.Conditions.{altering}
use Rattle.sheet_theory.specs.Valid.{Valid}
use Rattle.sheet_theory.proofs.InWords.{altering_words}
use Rattle.edit_theory.specs.Edit.{Edges, at, Edit, insert_edge, delete_edge, insert_edges_at, delete_edges_at, vertex_of, predecessors_of, successors_of}
use Rattle.edit_theory.specs.Outcome.{edit_answer, edit_after}
use Rattle.edit_theory.proofs.Refusals.{edit_refused}
use Rattle.edit_theory.proofs.OneEdit.{edit_exact}
use Rattle.edit_theory.proofs.InWords.{insert_words, delete_words, insert_at_words, delete_at_words, insert_valid_words, insert_at_valid_words}
use Rattle.edit_theory.proofs.InWords.{edit_length_words, edit_row_words, edit_named_words, edit_others_words, edit_value_words}
use Rattle.edit_theory.proofs.InWords.{insert_count_words, delete_count_words}
use Rattle.starred.specs.EveryCall.{edge, ones, Answers, Leaves, every, Stray, SomeNamed, CycleByCounts, Edited, laying, Insertion, Deletion, one, masks}

module _ (n : ℕ) (s : Lent) (g : Edges) where
  -- the vertex and the masks, and the edit with its answer and what it leaves
  abbrev v : ℕ
  v = vertex_of g

  abbrev A : ℕ
  A = predecessors_of g

  abbrev B : ℕ
  B = successors_of g

  -- a cycle among the edges of the sheet and all those of the edit together
  abbrev CycleByEdges : Type 0
  CycleByEdges = Cycle n (λ i j. edge s i j + bit A i * delta j v + delta i v * bit B j)

  abbrev edit : Bool → Edit
  edit inserts = record { inserts = inserts; vertices = n; edges = g }

  abbrev reply : Bool → Answer
  reply inserts = edit_answer (edit inserts) s

  abbrev left : Bool → Lent
  left inserts = edit_after (edit inserts) s

  answered : (inserts : Bool) (conditions : Conditions) → First conditions (reply inserts).number
      → Answers conditions (reply inserts) ((reply inserts).value ≡ ones n (left inserts))
  answered inserts conditions f = record {
    number = f;
    place = refl;
    accepted = edit_value_words n s inserts g;
    refused = λ d. ap (λ (r : Answer). r.value) (edit_refused (edit inserts) s d).0;
  }

  leaving : (inserts : Bool) (counted : ℕ → ℕ → Type 0) → ((reply inserts).number ≡ 0 → (i j : ℕ) → i < n → j < n → counted i j)
      → Leaves (reply inserts) s (left inserts) (Edited n s v A B (left inserts) (cond inserts 1 0) counted)
  leaving inserts counted c = (
    λ z. record {
      length = edit_length_words n s inserts g z;
      word = edit_row_words n s inserts g z;
      named = edit_named_words n s inserts g z;
      others = edit_others_words n s inserts g z;
      counts = c z;
      valid = λ h. (edit_exact n s h (edit inserts)).3;
    },
    λ d. (edit_refused (edit inserts) s d).1,
  )

  -- after 1 and 2 and before 5 and 7 stand the conditions 3 and 4
  module _ (argued : Conditions → Conditions) where
    abbrev first : Conditions → Conditions
    first l = every n s (argued l)

    -- 7, after those
    abbrev lifting : Conditions
    lifting = argued (SomeNamed n s v A B (λ i j. edge s i j ≡ 0) gives 7 ∷ [])

    insertion : First (altering n s (laying n s v A B argued (CycleByCounts n s v A B))) (reply true).number
        → (Valid n s → First (altering n s (laying n s v A B argued CycleByEdges)) (reply true).number)
        → Insertion n s v A B first (reply true) (left true)
    insertion f h = record {
      answers = answered true _ (altering_words n s (laying n s v A B argued (CycleByCounts n s v A B)) _ f);
      valid = λ x. altering_words n s (laying n s v A B argued CycleByEdges) _ (h x);
      leaves = leaving true _ (λ z i j hi hj. insert_count_words n s g i j hi hj z);
    }

    deletion : First (altering n s lifting) (reply false).number → Deletion n s v A B first (reply false) (left false)
    deletion f = record {
      answers = answered false _ (altering_words n s lifting _ f);
      leaves = leaving false _ (λ z i j hi hj. delete_count_words n s g i j hi hj z);
    }

-- ---- THE FIELDS

module _ (n : ℕ) (s : Lent) where
  -- 3 of one edge from u to v, and 3 and 4 of the masks A and B at v
  abbrev vertices : ℕ → ℕ → Conditions → Conditions
  vertices u v l = ((n ≤ u) ⊎ (n ≤ v)) gives 3 ∷ l

  abbrev vertex_and_masks : ℕ → ℕ → ℕ → Conditions → Conditions
  vertex_and_masks v A B l = (n ≤ v) gives 3 ∷ (Stray n A ⊎ Stray n B) gives 4 ∷ l

  pub insert_field : (u v : ℕ) → let e = insert_edge n u v in Insertion n s u 0 (2 ^ v) (one n s u v) (edit_answer e s) (edit_after e s)
  insert_field u v = insertion n s (Edges.one u v) (vertices u v) (insert_words n s u v) (λ h. insert_valid_words n s h u v)

  pub delete_field : (u v : ℕ) → let e = delete_edge n u v in Deletion n s u 0 (2 ^ v) (one n s u v) (edit_answer e s) (edit_after e s)
  delete_field u v = deletion n s (Edges.one u v) (vertices u v) (delete_words n s u v)

  pub insert_at_field : (v A B : ℕ) → let e = insert_edges_at n v A B in Insertion n s v A B (masks n s v A B) (edit_answer e s) (edit_after e s)
  insert_at_field v A B = insertion n s (at v A B) (vertex_and_masks v A B) (insert_at_words n s v A B) (λ h. insert_at_valid_words n s h v A B)

  pub delete_at_field : (v A B : ℕ) → let e = delete_edges_at n v A B in Deletion n s v A B (masks n s v A B) (edit_answer e s) (edit_after e s)
  delete_at_field v A B = deletion n s (at v A B) (vertex_and_masks v A B) (delete_at_words n s v A B)
