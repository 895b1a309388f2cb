-- The laws of answers: what a call answers and leaves, by the number that its checks gave. Assumes nothing.
use mathlib.Core.Path.{◌≡◌, refl, sym, ap, ◌∙◌}
use Prim.Native.Nat.{ℕ, zero, suc}
use native.Mathlib.Omega.{arith}
use Rattle.answer.specs.declared.Answer.{Answer}
use Rattle.answer.specs.Table.{Conditions, First}
use Rattle.answer.specs.Answers.{answer, decided, answered}
use Rattle.answer.proofs.TableLaws.{first_only}

-- an accepted call has the new
pub decided_new : {A : Type 0} (k : ℕ) (new old : A) → k ≡ 0 → decided k new old ≡ new
decided_new k new old z = rw z refl

pub decided_old : {A : Type 0} (k : ℕ) (new old : A) → (k ≡ 0 → ⊥) → decided k new old ≡ old
decided_old zero new old h = absurd (h refl)
decided_old (suc k) new old h = refl

-- the value of a refused call is 0
pub answered_not : (k v : ℕ) → ¬ (k ≡ 0) → answered k v ≡ answer k 0 0
answered_not k v d = ap (answer k 0) (decided_old k v 0 d)

pub answer_ext : (r r' : Answer) → r.number ≡ r'.number → r.place ≡ r'.place → r.value ≡ r'.value → r ≡ r'
answer_ext r r' a b c =
    ap (λ (x : ℕ). answer x r.place r.value) a ∙ ap (λ (x : ℕ). answer r'.number x r.value) b ∙ ap (λ (x : ℕ). answer r'.number r'.place x) c

-- what is refused by a number answers with it, and changes nothing
pub refused_by : {A : Type 0} {k : ℕ} (r : Answer) (old new : A) → r.number ≡ suc k
    → (¬ (r.number ≡ 0) → (r ≡ answer r.number 0 0) × (new ≡ old)) → (r ≡ answer (suc k) 0 0) × (new ≡ old)
refused_by r old new e h = let p = h (λ z. omega (arith, e, z)) in (p.0 ∙ ap (λ k. answer k 0 0) e, p.1)

-- ---- the number k that the checks gave, and that of the definition, m, both of the first condition that holds

module _ (cs : Conditions) (k m : ℕ) (f : First cs k) (g : First cs m) where
  same : k ≡ m
  same = first_only cs k m f g

  -- what is accepted
  pub accepted_as : {A : Type 0} (new old t : A) (v : ℕ) (r : Answer) → k ≡ 0 → r ≡ answer 0 0 v → t ≡ new → (r ≡ answered m v) × (t ≡ decided m new old)
  accepted_as new old t v r z er et =
      let e : 0 ≡ m = sym z ∙ same in
      (er ∙ ap (λ (x : ℕ). answered x v) e, et ∙ ap (λ (x : ℕ). decided x new old) e)
