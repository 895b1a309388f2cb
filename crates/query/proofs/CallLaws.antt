-- The ways out of the calls: what their checks past that of the sheet found, and the walk written to the buffer. Assumes nothing.
use mir.Val.{bool_byte}
use Rattle.std.proofs.Common.{◌≡◌, inl, inr, Option, Some, None, MatchOption, Result, Ok, Err, ok_or, Bool, true, false, not, cond, eqb, ℕ, List, [], ◌++◌, length, refl, ap, ap₂, ◌∙◌, arith}
use Rattle.text.specs.Text.{written}
use Rattle.answer.specs.declared.Refusal.{Refusal}
use Rattle.answer.specs.declared.Refusal.TheVariants.{NotValid}
use Rattle.answer.specs.Table.{Conditions, First}
use Rattle.answer.specs.Answers.{answer, number_of_refusal, answer_of}
use Rattle.answer.proofs.ByNumber.{first_after}
use Rattle.answer.proofs.OutcomeLaws.{refused_more}
use Rattle.sheet_theory.specs.Layout.{count_at}
use Rattle.sheet_theory.specs.Lent.{Lent}
use Rattle.sheet_theory.specs.Conditions.{sized}
use Rattle.sheet_theory.proofs.ShapeLaws.{refused_answer, refused_after, accepted_answer, accepted_after}
use Rattle.query_theory.specs.ReachesWithout.{product, reaches_without}
use Rattle.query_theory.specs.Unrank.{walk, walk_conditions, unrank_answer, unrank_after}
use Rattle.query_theory.proofs.Refusals.{unrank_first}
use Rattle.query.specs.Internal.{before_walk, IsWalk}

-- ---- reaches_without: x is the product, c the count, r whether they differ

differ : (b : Bool) → bool_byte (not b) ≡ cond b 0 1
differ true = refl
differ false = refl

pub without_value : (n : ℕ) (s : Lent) (i j u v x c r : ℕ) → x ≡ product n s.words i j u v → c ≡ count_at n s.words i j → r ≡ bool_byte (not (eqb x c))
    → r ≡ reaches_without n s i j u v
unfolding reaches_without
without_value n s i j u v x c r ex ec er = er ∙ differ (eqb x c) ∙ ap₂ (λ (a b : ℕ). cond (eqb a b) 0 1) ex ec

-- ---- what a lookup that may find nothing answers as an outcome, where x stands for nothing

pub found_none : {A : Type 0} (w : Option A) (x e : Refusal) (P : Type 0) (Q : A → Type 0) → MatchOption w P Q → ok_or w x ≡ Err e → P × (e ≡ x)
found_none None x e P Q m q = (m, grind arith)
found_none (Some a) x e P Q m q = absurd (grind arith)

pub found_some : {A : Type 0} (w : Option A) (x : Refusal) (a : A) (P : Type 0) (Q : A → Type 0) → MatchOption w P Q → ok_or w x ≡ Ok a → Q a
found_some None x a P Q m q = absurd (grind arith)
found_some (Some b) x a P Q m q = grind arith

-- ---- unrank of the buffer p, past the shape: what is refused leaves it, and an accepted walk stands in its first places

module _ (n : ℕ) (s : Lent) (i j k : ℕ) (p : List ℕ) (f : First (sized n s []) 0) where
  abbrev first_checks : Conditions
  first_checks = before_walk n s i j k (length p)

  unrank_refused : (o : Result ℕ Refusal) (e : Refusal) → o ≡ Err e → First (first_checks ++ walk_conditions n s i j k) (number_of_refusal e)
      → (answer_of o ≡ unrank_answer n s i j k (length p)) × (p ≡ unrank_after n s i j k p)
  unrank_refused o e eo h = let u = unrank_first n s i j k (length p) in (refused_answer u f e h _ o eo, refused_after u f e h _ p)

  -- by what is looked for before the walk
  pub unrank_stops : (o : Result ℕ Refusal) (e : Refusal) → o ≡ Err e → First first_checks (number_of_refusal e)
      → (answer_of o ≡ unrank_answer n s i j k (length p)) × (p ≡ unrank_after n s i j k p)
  unrank_stops o e eo g = unrank_refused o e eo (refused_more first_checks (walk_conditions n s i j k) e g)

  module _ (g : First first_checks 0) where
    past_checks : (x : ℕ) → First (walk_conditions n s i j k) x → First (first_checks ++ walk_conditions n s i j k) x
    past_checks x h = first_after first_checks (walk_conditions n s i j k) 0 x refl g refl h

    pub unrank_astray : (o : Result ℕ Refusal) → o ≡ Err NotValid → walk n s.words i j k ≡ []
        → (answer_of o ≡ unrank_answer n s i j k (length p)) × (p ≡ unrank_after n s i j k p)
    unrank_astray o eo e = unrank_refused o NotValid eo (past_checks 9 (inl (e, refl)))

    pub unrank_arrived : (l q : List ℕ) → IsWalk n s.words i j k l → q ≡ written l p
        → (answer 0 0 (length l) ≡ unrank_answer n s i j k (length p)) × (q ≡ unrank_after n s i j k p)
    unrank_arrived l q w eq =
        let u = unrank_first n s i j k (length p) in
        let here : First (first_checks ++ walk_conditions n s i j k) 0 = past_checks 0 (inr ((λ e. omega (arith, w.some, ap length (w.is ∙ e))), refl)) in (
          accepted_answer u f here _ _ (ap length w.is),
          accepted_after u f here _ p q (eq ∙ ap (λ (x : List ℕ). written x p) w.is),
        )
