-- An edit: the counts and then the rows make the edited sheet; and the ways out of `edit_at` and of the four calls. Assumes nothing.
use Rattle.std.proofs.Common.{Result, Err, ◌≡◌, Bool, true, false, ℕ, List, [], length, sym, ap, ◌∙◌}
use Rattle.answer.specs.declared.Answer.{Answer}
use Rattle.answer.specs.declared.Refusal.{Refusal}
use Rattle.answer.specs.Table.{First}
use Rattle.answer.specs.Answers.{answer, decided, answered, number_of_refusal, answer_of}
use Rattle.answer.proofs.AnswerLaws.{decided_old}
use Rattle.answer.proofs.OutcomeLaws.{refusal_some}
use Rattle.sheet_theory.specs.Layout.{Shape, size, set_bits}
use Rattle.sheet_theory.specs.Lent.{Lent, lent}
use Rattle.sheet_theory.specs.Conditions.{altering}
use Rattle.sheet_theory.proofs.ShapeLaws.{accepted_shape, number_past, refused_answer, refused_after}
use Rattle.sheet_theory.proofs.LayoutLaws.{length_redone, row_redone, count_redone, rest_redone, redone_ext}
use Rattle.edit_counts.specs.Internal.{Names, counts_edited}
use Rattle.edit_theory.specs.Edit.{Edges, Edit, edges_edit, vertex_of, predecessors_of, successors_of}
use Rattle.edit_theory.specs.Book.{opened}
use Rattle.edit_theory.specs.Table.{argued, most_parallel, effects}
use Rattle.edit_theory.specs.Outcome.{edited_row, edited, edit_grounds, edit_words, edit_made, edit_answer, edit_after}
use Rattle.edit_theory.proofs.ConditionLaws.{argued_refused, argued_iff}
use Rattle.edit_theory.proofs.Refusals.{edit_first}
use Rattle.edit.specs.Internal.{EditNumber, Written, Made, rows_edited}

-- ---- the counts and then the rows

counts_rows : (inserts : Bool) (n : ℕ) (s : List ℕ) (v a b : ℕ) → length s ≡ size n
    → rows_edited inserts n (counts_edited inserts n s v a b) v a b ≡ edited inserts n s v a b
unfolding edited edited_row
counts_rows inserts n s v a b long =
    redone_ext n _ _ s (rows_edited inserts n t v a b) (length_redone n _ _ t ∙ same)
    (λ i hi. row_redone n _ _ t (same ∙ long) i hi ∙ rw (row_redone n _ _ s long i hi))
    (λ i j hi hj. count_redone n _ _ t (same ∙ long) i j hi hj ∙ count_redone n _ _ s long i j hi hj)
    (λ k h. rest_redone n _ _ t k h ∙ rest_redone n _ _ s k h)
  where
    t : List ℕ
    t = counts_edited inserts n s v a b

    same : length t ≡ length s
    same = length_redone n _ _ s

-- the way out of `write_edit`: u is the sheet once the counts are edited, w once the rows are
pub edit_written : (inserts : Bool) (n : ℕ) (s : List ℕ) (v a b : ℕ) → Shape n s → (u w : List ℕ) → u ≡ counts_edited inserts n s v a b
    → w ≡ rows_edited inserts n u v a b → (x : ℕ) → x ≡ set_bits n w → Written inserts n s v a b x w
edit_written inserts n s v a b shape u w eu ew x ex =
    let e : w ≡ edited inserts n s v a b =
    ew ∙ ap (λ (t : List ℕ). rows_edited inserts n t v a b) eu ∙ counts_rows inserts n s v a b shape.long in
    record { words = e; value = ex ∙ ap (set_bits n) e }

-- ---- `edit_at`: refused or made, where r is how it answers

module _ (inserts : Bool) (n : ℕ) (s : Lent) (v a b : ℕ) (r : Answer) where
  abbrev MadeHere : Lent → Type 0
  MadeHere t = Made (EditNumber inserts n s v a b) (edges_edit inserts n v a b) s r t

  pub effect_refused : (e : Refusal) → r ≡ answer (number_of_refusal e) 0 0 → EditNumber inserts n s v a b (number_of_refusal e) → MadeHere s
  effect_refused e er f =
      let d : ¬ (number_of_refusal e ≡ 0) = refusal_some e in
      rw er (record { number = f; answers = ap (answer (number_of_refusal e) 0) (sym (decided_old (number_of_refusal e) _ 0 d)); leaves = sym (decided_old (number_of_refusal e) _ s d) })

  pub effect_made : (w : List ℕ) (x : ℕ) → r ≡ answer 0 0 x → EditNumber inserts n s v a b 0 → Written inserts n s.words v a b x w → MadeHere (lent w)
  effect_made w x er f h = rw er (record { number = f; answers = ap (answer 0 0) h.value; leaves = ap lent h.words })

-- ---- the calls, past the shape

module _ (e : Edit) (s : Lent) (f : First (altering e.vertices s []) 0) where
  -- refused by 3 or 4
  pub argument_refused : (r : Refusal) → First (argued e.vertices e.edges []) (number_of_refusal r) → (o : Result ℕ Refusal) → o ≡ Err r
      → (answer_of o ≡ edit_answer e s) × (s ≡ edit_after e s)
  argument_refused r g o eo =
      let h = argued_refused e.vertices e.edges _ _ g (refusal_some r) in
      (refused_answer (edit_first e s) f r h _ o eo, refused_after (edit_first e s) f r h _ s)

  -- or as `edit_at` answers, at the vertex and by the masks of the edit's edges
  module _ (g : First (argued e.vertices e.edges []) 0) (inserts : Bool) (n v a b : ℕ) (names : Names e inserts n v a b) where
    pub names_shape : Shape n s.words
    names_shape = rw names.vertices (accepted_shape e.vertices s [] f)

    same_effects : (d : Bool) (h : Edges) (j : ℕ) → EditNumber d e.vertices s (vertex_of h) (predecessors_of h) (successors_of h) j
        → First (effects d e.vertices most_parallel h (opened e.vertices s) (edit_grounds (record { inserts = d; vertices = e.vertices; edges = h }) s)) j
    unfolding EditNumber
    same_effects true h j x = x
    same_effects false h j x = x

    pub call_edited : (r : Answer) (t : Lent) → Made (EditNumber inserts n s v a b) (edges_edit inserts n v a b) s r t → (r ≡ edit_answer e s) × (t ≡ edit_after e s)
    call_edited r t made =
        let h = rw (names.direction, names.vertices, names.vertex, names.predecessors, names.successors) at made in
        let q = number_past (edit_first e s) f r.number ((argued_iff e.vertices e.edges _ _ g).1 (same_effects e.inserts e.edges _ h.number)) in (
          h.answers ∙ ap (λ (y : ℕ). answered y (set_bits e.vertices (edit_words e s))) q,
          h.leaves ∙ ap (λ (y : ℕ). decided y (edit_made e s) s) q,
        )
