-- Only one answer, and one sheet afterwards, meet what the page `EveryCall` says of an insertion or a deletion. Assumes nothing.
use mathlib.Core.Path.{◌≡◌, refl, sym, ap, ◌∙◌}
use mathlib.Core.Bool.{Bool, true, false}
use Prim.Native.Nat.{ℕ, ◌<◌}
use native.Mathlib.Omega.{arith}
use Rattle.word.proofs.BitLaws.{bits_determine}
use Rattle.answer.specs.declared.Answer.{Answer}
use Rattle.answer.specs.Table.{Conditions}
use Rattle.answer.proofs.TableLaws.{reflects_false}
use Rattle.sheet_theory.specs.Lent.{Lent}
use Rattle.edit_theory.specs.Edit.{named_at}
use Rattle.edit_theory.proofs.TestLaws.{named_reflects}
use Rattle.starred.specs.EveryCall.{row, edge, count, ones, every, Answers, Leaves, Edited, Insertion, Deletion}
use Rattle.starred.proofs.AnswersOnly.{calls_only, sheets_only}

module _ (n : ℕ) (s : Lent) (v A B : ℕ) where
  -- the bits of the edges of an edit are x, and the others as they were: so two sheets that it leaves have the same rows
  rows_only : (t u : Lent) (x : ℕ) (c d : ℕ → ℕ → Type 0) → Edited n s v A B t x c → Edited n s v A B u x d → (i : ℕ) → i < n → row t i ≡ row u i
  rows_only t u x c d p q i hi = bits_determine 64 (row t i) (row u i) (p.word i hi) (q.word i hi) (λ j hj. by_test j hj (named_at v A B i j) refl)
    where
      by_test : (j : ℕ) → j < 64 → (b : Bool) → named_at v A B i j ≡ b → edge t i j ≡ edge u i j
      by_test j hj true e = let y = (named_reflects v A B i j).holds e in p.named i j hi hj y ∙ sym (q.named i j hi hj y)
      by_test j hj false e = let y = (reflects_false (named_reflects v A B i j)).0 e in p.others i j hi hj y ∙ sym (q.others i j hi hj y)

  -- so an edit by the conditions l is known, if what is said of the counts that it leaves is met by only one number for each
  edit_only : (l : Conditions) (x : ℕ) (c d : ℕ → ℕ → Type 0) (r w : Answer) (t u : Lent)
      → Answers (every n s l) r (r.value ≡ ones n t) → Leaves r s t (Edited n s v A B t x c)
      → Answers (every n s l) w (w.value ≡ ones n u) → Leaves w s u (Edited n s v A B u x d)
      → ((i j : ℕ) → c i j → d i j → count n t i j ≡ count n u i j) → (r ≡ w) × (t ≡ u)
  edit_only l x c d r w t u a p b q same =
      calls_only a p b q
      (λ z y h.
      sheets_only n s a z t u y.length h.length (rows_only t u x c d y h)
      (λ i j hi hj. same i j (y.counts i j hi hj) (h.counts i j hi hj)))
      (λ e y h. y ∙ ap (ones n) e ∙ sym h)

  -- after 1 and 2 and before 5 and 7 stand the conditions 3 and 4
  module _ (argued : Conditions → Conditions) where
    abbrev first : Conditions → Conditions
    first l = every n s (argued l)

    pub insertion_line_only : (r w : Answer) (t u : Lent) → Insertion n s v A B first r t → Insertion n s v A B first w u → (r ≡ w) × (t ≡ u)
    insertion_line_only r w t u p q = edit_only _ 1 _ _ r w t u p.answers p.leaves q.answers q.leaves (λ i j c d. c ∙ sym d)

    pub deletion_line_only : (r w : Answer) (t u : Lent) → Deletion n s v A B first r t → Deletion n s v A B first w u → (r ≡ w) × (t ≡ u)
    deletion_line_only r w t u p q = edit_only _ 0 _ _ r w t u p.answers p.leaves q.answers q.leaves (λ i j c d. omega (arith, c.0, c.1, d.0, d.1))
