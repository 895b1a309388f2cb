-- A refused call, for every n, every length and all words, has the place 0 and the value 0 and changes no word. Assumes nothing.
use mathlib.Core.Path.{◌≡◌, refl, ◌∙◌}
use mathlib.Core.Logic.{inl, inr}
use mathlib.Core.List.{[]}
use Prim.Native.Nat.{ℕ}
use Rattle.answer.specs.declared.Answer.{Answer}
use Rattle.answer.specs.Answers.{answer}
use Rattle.sheet_theory.specs.Layout.{set_bits}
use Rattle.sheet_theory.specs.Lent.{Lent}
use Rattle.answer.proofs.TableLaws.{first_only}
use Rattle.answer.proofs.AnswerLaws.{decided_old, answer_ext}
use Rattle.sheet_theory.proofs.ShapeLaws.{shape_passed}
use Rattle.recount_theory.specs.Calls.{Recount, validate_conditions, Validate}

pub recount_refused : (n : ℕ) (s : Lent) (r : Answer) (t : Lent) → Recount n s r t → ¬ (r.number ≡ 0) → (r ≡ answer r.number 0 0) × (t ≡ s)
recount_refused n s r t h d = (answer_ext r _ refl h.place (h.value ∙ decided_old r.number (set_bits n s.words) 0 d), h.refused d)

-- what is refused has not the shape of a valid sheet
pub validate_refused : (n : ℕ) (s : Lent) (r : Answer) → Validate n s r → ¬ (r.number ≡ 0) → r ≡ answer r.number 0 0
validate_refused n s r h d =
    answer_ext r _ refl h.place
    (elim h.value [ inl p ↦ absurd (d (first_only (validate_conditions n s) r.number 0 h.number (shape_passed n s p.0.shape [] 0 refl))) | inr p ↦ p.1 ])
