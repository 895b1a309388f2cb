-- Of what the page `EveryCall` says in the same words of several calls (`Answers`, `Leaves`, `Tells`): only one answer, one buffer and one
-- sheet meet it. Assumes nothing.
use mathlib.Core.Path.{◌≡◌, sym, ◌∙◌}
use mathlib.Core.Logic.{inl, inr}
use Prim.Native.Nat.{ℕ, ◌+◌, ◌*◌, ◌<◌}
use native.Mathlib.Decide.{ℕ_discrete}
use lib.ListN.{length}
use Rattle.answer.specs.declared.Answer.{Answer}
use Rattle.answer.specs.Table.{Conditions, First}
use Rattle.answer.proofs.TableLaws.{first_only, first_past}
use Rattle.answer.proofs.AnswerLaws.{answer_ext}
use Rattle.sheet_theory.specs.Layout.{size}
use Rattle.sheet_theory.specs.Lent.{Lent}
use Rattle.sheet_theory.proofs.LayoutLaws.{rest_none, sheet_ext}
use Rattle.sheet_theory.proofs.ValidLaws.{lent_ext}
use Rattle.starred.specs.EveryCall.{row, count, every, Answers, Leaves, Tells}

-- two answers by the same conditions have the same number
pub numbers_only : {l : Conditions} {r w : Answer} {V W : Type 0} → Answers l r V → Answers l w W → r.number ≡ w.number
numbers_only {l} {r} {w} a b = first_only l r.number w.number a.number b.number

-- and they are the same, if their values are the same when they are accepted
pub answers_only : {l : Conditions} {r w : Answer} {V W : Type 0} → Answers l r V → Answers l w W → (V → W → r.value ≡ w.value) → r ≡ w
answers_only {l} {r} {w} a b same =
    let e = numbers_only a b in
    answer_ext r w e (a.place ∙ sym b.place) (elim (ℕ_discrete r.number 0) [
      | yes z ↦ same (a.accepted z) (b.accepted (sym e ∙ z))
      | no d ↦ a.refused d ∙ sym (b.refused (λ z. d (e ∙ z)))
    ])

-- two answers that tell whether P holds have the same value
pub tells_only : (r w : Answer) (P : Type 0) → Tells r P → Tells w P → r.value ≡ w.value
tells_only r w P (inl a) (inl b) = a.1 ∙ sym b.1
tells_only r w P (inl a) (inr b) = absurd (b.0 a.0)
tells_only r w P (inr a) (inl b) = absurd (a.0 b.0)
tells_only r w P (inr a) (inr b) = a.1 ∙ sym b.1

-- two calls with the same number leave the same of a buffer, if they do when they are accepted
leaves_only : {A : Type 0} (r w : Answer) (before p q : A) (P Q : Type 0) → r.number ≡ w.number → Leaves r before p P → Leaves w before q Q
    → (r.number ≡ 0 → P → Q → p ≡ q) → p ≡ q
leaves_only r w before p q P Q e a b same =
    elim (ℕ_discrete r.number 0) [ yes z ↦ same z (a.0 z) (b.0 (sym e ∙ z)) | no d ↦ a.1 d ∙ sym (b.1 (λ z. d (e ∙ z))) ]

-- so two calls by the same conditions answer and leave the same, if what they leave when they are accepted is the same, and with it the values
pub calls_only : {A : Type 0} {l : Conditions} {r w : Answer} {before p q : A} {V W P Q : Type 0}
    → Answers l r V → Leaves r before p P → Answers l w W → Leaves w before q Q
    → (r.number ≡ 0 → P → Q → p ≡ q) → (p ≡ q → V → W → r.value ≡ w.value) → (r ≡ w) × (p ≡ q)
calls_only {r} {w} {before} {p} {q} {P} {Q} a x b y left value =
    let e = leaves_only r w before p q P Q (numbers_only a b) x y left in
    (answers_only a b (value e), e)

module _ (n : ℕ) (s : Lent) {l : Conditions} {r : Answer} {V : Type 0} (a : Answers (every n s l) r V) (z : r.number ≡ 0) where
  -- a call that is accepted was lent n + n × n words
  long_when_accepted : length s.words ≡ size n
  unfolding size
  long_when_accepted =
      let f : First (every n s l) 0 = rw z at a.number in
      elim (ℕ_discrete (length s.words) (n + n * n)) [ yes e ↦ e | no d ↦ absurd ((first_past (first_past f).1).0 d) ]

  -- so two sheets of the length of the one that it was lent are the same, if they have the same rows and the same counts
  pub sheets_only : (t u : Lent) → length t.words ≡ length s.words → length u.words ≡ length s.words
      → ((i : ℕ) → i < n → row t i ≡ row u i) → ((i j : ℕ) → i < n → j < n → count n t i j ≡ count n u i j) → t ≡ u
  sheets_only t u p q rows counts =
      lent_ext t u (sheet_ext n t.words u.words (p ∙ long_when_accepted) (q ∙ long_when_accepted) rows counts
      (λ k h o. absurd (rest_none n k h o)))
