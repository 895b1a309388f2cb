-- The laws of outcomes: a refusal has a number that is not 0, and the answer follows from the first condition that holds. Assumes nothing.
use Rattle.std.proofs.Common.{◌≡◌, ℕ, Result, Ok, Err, IfOk, ◌++◌, sym, ap, ◌∙◌, arith}
use Rattle.answer.specs.declared.Refusal.{Refusal}
use Rattle.answer.specs.declared.Refusal.TheVariants.{Vertices, Length, Vertex, StrayBit, SelfLoop, Present, Absent, Cycle, NotValid, Buffer, NoSuchPath, NoPath, PlanLength, Record}
use Rattle.answer.specs.Table.{Conditions, First}
use Rattle.answer.specs.Answers.{answer, answered, decided, number_of_refusal, number_of, answer_of}
use Rattle.answer.proofs.TableLaws.{first_only, first_more}
use Rattle.answer.proofs.AnswerLaws.{answered_not, decided_new, decided_old}

pub refusal_some : (e : Refusal) → ¬ (number_of_refusal e ≡ 0)
refusal_some Vertices z = omega (arith, z)
refusal_some Length z = omega (arith, z)
refusal_some Vertex z = omega (arith, z)
refusal_some StrayBit z = omega (arith, z)
refusal_some SelfLoop z = omega (arith, z)
refusal_some Present z = omega (arith, z)
refusal_some Absent z = omega (arith, z)
refusal_some Cycle z = omega (arith, z)
refusal_some NotValid z = omega (arith, z)
refusal_some Buffer z = omega (arith, z)
refusal_some NoSuchPath z = omega (arith, z)
refusal_some NoPath z = omega (arith, z)
refusal_some PlanLength z = omega (arith, z)
refusal_some Record z = omega (arith, z)

-- a refusal stands, whatever conditions follow
pub refused_more : (cs ds : Conditions) (e : Refusal) → First cs (number_of_refusal e) → First (cs ++ ds) (number_of_refusal e)
refused_more cs ds e f = first_more cs ds _ f (refusal_some e)

-- the answer of an outcome, where the number m of the definition is that of the first condition that holds too
pub answered_by : (cs : Conditions) (m v : ℕ) (o : Result ℕ Refusal) → First cs (number_of o) → First cs m → IfOk o (λ x. x ≡ v) → answer_of o ≡ answered m v
answered_by cs m v (Ok x) f g e = ap (answer 0 0) e ∙ ap (λ (k : ℕ). answered k v) (first_only cs 0 m f g)
answered_by cs m v (Err r) f g e =
    let same = first_only cs (number_of_refusal r) m f g in
    ap (λ (k : ℕ). answer k 0 0) same ∙ sym (answered_not m v (λ z. refusal_some r (same ∙ z)))

-- ---- the same by the way out of a call: cs are its conditions, and m is the number of the definition

module _ (cs : Conditions) (m : ℕ) (g : First cs m) where
  pub refused_with : (v : ℕ) (o : Result ℕ Refusal) (e : Refusal) → o ≡ Err e → First cs (number_of_refusal e) → answer_of o ≡ answered m v
  refused_with v o e eo f = ap answer_of eo ∙ answered_by cs m v (Err e) f g tt

  pub refused_leaves : {A : Type 0} (new old : A) (e : Refusal) → First cs (number_of_refusal e) → old ≡ decided m new old
  refused_leaves new old e f = sym (decided_old m new old (λ z. refusal_some e (first_only cs _ m f g ∙ z)))

  pub accepted_with : (v x : ℕ) → First cs 0 → x ≡ v → answer 0 0 x ≡ answered m v
  accepted_with v x f e = answered_by cs m v (Ok x) f g e

  pub accepted_leaves : {A : Type 0} (new old t : A) → First cs 0 → t ≡ new → t ≡ decided m new old
  accepted_leaves new old t f e = e ∙ sym (decided_new m new old (sym (first_only cs 0 m f g)))
