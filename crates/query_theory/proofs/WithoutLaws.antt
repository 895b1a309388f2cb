-- What `reaches_without` answers: k is what its checks gave, x the product, c the count. Assumes nothing.
use mathlib.Core.Path.{◌≡◌, refl, sym, ap, ◌∙◌}
use mathlib.Core.Bool.{Bool, cond}
use Prim.Native.Nat.{ℕ}
use borrow.Author.Tests.{eq-eqb, ne_eqb}
use Rattle.answer.specs.declared.Answer.{Answer}
use Rattle.answer.specs.Table.{First}
use Rattle.answer.specs.Answers.{answer}
use Rattle.sheet_theory.specs.Layout.{count_at}
use Rattle.sheet_theory.specs.Lent.{Lent}
use Rattle.answer.proofs.AnswerLaws.{accepted_as}
use Rattle.query_theory.specs.ReachesWithout.{reaches_without_conditions, product, reaches_without, reaches_without_answer}
use Rattle.query_theory.proofs.Refusals.{reaches_without_first}

module _ (n : ℕ) (s : Lent) (i j u v k : ℕ) (f : First (reaches_without_conditions n s i j u v) k) where
  module _ (z : k ≡ 0) (x c : ℕ) (ex : x ≡ product n s.words i j u v) (ec : c ≡ count_at n s.words i j) where
    accepted : (r : Answer) → r ≡ answer 0 0 (reaches_without n s i j u v) → r ≡ reaches_without_answer n s i j u v
    accepted r er = (accepted_as (reaches_without_conditions n s i j u v) k _ f (reaches_without_first n s i j u v).first s s s _ r z er refl).0

    pub without_no : x ≡ c → (r : Answer) → r ≡ answer 0 0 0 → r ≡ reaches_without_answer n s i j u v
    unfolding reaches_without
    without_no e r er = accepted r (er ∙ ap (λ (t : Bool). answer 0 0 (cond t 0 1)) (sym (eq-eqb _ _ (sym ex ∙ e ∙ ec))))

    pub without_yes : (x ≡ c → ⊥) → (r : Answer) → r ≡ answer 0 0 1 → r ≡ reaches_without_answer n s i j u v
    unfolding reaches_without
    without_yes d r er = accepted r (er ∙ ap (λ (t : Bool). answer 0 0 (cond t 0 1)) (sym (ne_eqb _ _ (λ e. d (ex ∙ e ∙ sym ec)))))
