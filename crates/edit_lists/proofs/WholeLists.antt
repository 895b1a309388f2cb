-- THE THEOREM about whole lists of edits (demand 3). Assumes nothing.
use mathlib.Core.Path.{◌≡◌, refl, sym, ap, subst, ◌∙◌}
use mathlib.Core.List.{List, []}
use Prim.Native.Nat.{ℕ, ◌<◌}
use lib.ListN.{length}
use Rattle.answer.specs.declared.Answer.{Answer}
use Rattle.answer.specs.Answers.{answer, answered}
use Rattle.sheet_theory.specs.Layout.{row_at, count_at, redone}
use Rattle.sheet_theory.specs.Lent.{Lent, lent, Lends, mult_at}
use Rattle.sheet_theory.specs.Valid.{Valid}
use Rattle.sheet_theory.specs.Calls.{empty_answer, empty_after}
use Rattle.sheet_theory.proofs.ShapeLaws.{shape_passed}
use Rattle.sheet_theory.proofs.Refusals.{empty_table}
use Rattle.sheet_theory.proofs.LayoutLaws.{length_redone, row_redone}
use Rattle.sheet_theory.proofs.Meaning.{empty_leaves}
use Rattle.recount_theory.specs.Calls.{Recount}
use Rattle.recount_theory.proofs.Meaning.{recount_same, validate_iff, valid_validates}
use Rattle.edit_theory.specs.Edit.{Edit}
use Rattle.edit_theory.specs.Book.{Model, opened}
use Rattle.edit_theory.specs.Model.{Fresh}
use Rattle.edit_theory.proofs.FreshLaws.{Modelled, modelled_valid, valid_modelled, fresh_only}
use Rattle.edit_theory.proofs.OneEdit.{edit_changes}
use Rattle.edit_lists.specs.Run.{Run, after}
use Rattle.edit_lists.specs.WholeList.{Tested, SameEdges, WholeList}
use Rattle.edit_lists.proofs.RunLaws.{run_modelled, run_only}

tested_valid : {n : ℕ} {s : Lent} → Tested n s → Valid n s
tested_valid {n} {s} t = (validate_iff n s t.reply t.validated).0 t.one

-- what `empty` answers and leaves
empty_starts : (n : ℕ) (w : Lent) → Lends n w → (empty_answer n w ≡ answer 0 0 0) × Tested n (empty_after n w)
    × ((i j : ℕ) → i < n → j < n → mult_at n (empty_after n w) i j ≡ 0)
empty_starts n w h =
    let z : (empty_answer n w).number ≡ 0 = (empty_table n w 0).1 (shape_passed n w h [] 0 refl) in
    let e = empty_leaves n w z in (
      ap (λ (k : ℕ). answered k 0) z,
      record { reply = answer 0 0 1; validated = valid_validates n (empty_after n w) e.0; one = refl },
      e.1,
    )

valid_after : (n : ℕ) (s : Lent) → Valid n s → (es : List Edit) → Valid n (after es s)
valid_after n s v es =
    let r = run_modelled es (opened n s) s (valid_modelled v) in
    subst (λ x. Valid x (after es s)) r.3 (modelled_valid r.2)

same_words : {m m' : Model} (s t : Lent) → SameEdges m m' → Fresh m s → Fresh m' t → s ≡ t
same_words {m} {m'} s t q f g =
    fresh_only m.vertices m.edge m'.edge s t q.edges f (subst (λ x. Fresh (record { vertices = x; edge = m'.edge }) t) (sym q.vertices) g)

module _ (n : ℕ) (s : Lent) (tested : Tested n s) (es : List Edit) where
  -- a list ends with its model, by every run
  ends : (rs : List Answer) (m : Model) → Run (opened n s) es rs m → Modelled m (after es s)
  ends rs m q =
      let r = run_modelled es (opened n s) s (valid_modelled (tested_valid tested)) in
      subst (λ x. Modelled x (after es s)) (run_only r.1 q).1 r.2

-- words that differ in the counts alone recount to the same
recounts : (n : ℕ) (s t : Lent) → Valid n s → t ≡ lent (redone n (row_at s.words) (count_at n t.words) s.words)
    → (r : Answer) (u : Lent) → Recount n t r u → (r.number ≡ 0) × (u ≡ s)
recounts n s t v e =
    recount_same n s t v (ap (λ (l : Lent). length l.words) e ∙ length_redone n _ _ s.words)
    (λ i hi. ap (λ (l : Lent). row_at l.words i) e ∙ row_redone n (row_at s.words) (count_at n t.words) s.words v.shape.long i hi)

-- THE THEOREM: whatever the sheet that validate answers with the value 1, and whatever the list of edits
pub whole_list : (n : ℕ) (s : Lent) → Tested n s → (es : List Edit) → WholeList n s es
whole_list n s tested es =
    let r = run_modelled es (opened n s) s (valid_modelled (tested_valid tested)) in
    let v = valid_after n s (tested_valid tested) es in
    record {
      model = r.0;
      run = r.1;
      fresh = r.2.fresh;
      valid = v;
      only = λ rs m q. run_only q r.1;
      words = λ t f. same_words t (after es s) (record { vertices = refl; edges = λ i j hi hj. refl }) f r.2.fresh;
      same_end = λ n' s' tested' es' rs' m' q same.
          same_words (after es s) (after es' s') same r.2.fresh (ends n' s' tested' es' rs' m' q).fresh;
      recounted = λ t. recounts n (after es s) t v;
      changes = λ es₁ es₂ e q. edit_changes n (after es₁ s) (valid_after n s (tested_valid tested) es₁) e;
      start = empty_starts;
    }
