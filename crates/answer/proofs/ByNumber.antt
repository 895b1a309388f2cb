-- What the first condition that holds tells of the others, looked up by their numbers, so that a condition put between two others moves
-- no citation; and conditions after others. Assumes nothing.
use mathlib.Core.Path.{◌≡◌, refl, sym, ap, ◌∙◌}
use mathlib.Core.Logic.{◌⊎◌, inl, inr, ◌↔◌}
use mathlib.Core.Bool.{Bool, true, false, cond, not, false≢true}
use mathlib.Core.List.{[], ◌∷◌, ◌++◌}
use Prim.Native.Nat.{ℕ, zero, suc}
use native.Mathlib.Omega.{arith}
use borrow.Author.Tests.{eqb-true, eq-eqb}
use lib.Dec.{eqb}
use Rattle.answer.specs.Table.{Conditions, First}
use Rattle.answer.specs.Answers.{decided}
use Rattle.answer.proofs.TableLaws.{first_only, first_more}

-- one of three: for an entry that has the number k, for one that has 0, and for any other
abbrev pick {ℓ} : {A : Type ℓ} → ℕ → ℕ → A → A → A → A
pick k m same none other = cond (eqb m 0) none (cond (eqb k m) same other)

-- the condition of number k: the first that has it
abbrev pub condition_of : Conditions → ℕ → Type 0
condition_of [] k = ⊥
condition_of (c ∷ l) k = pick k c.1 c.0 ⊥ (condition_of l k)

-- whether a condition has the number j, and none before it the number k
abbrev pub before : Conditions → ℕ → ℕ → Bool
before [] j k = false
before (c ∷ l) j k = cond (eqb k c.1) false (pick j c.1 true false (before l j k))

-- what an entry with the condition P leaves to those after it, where `a` says that it has the number k, z that it has 0, and b that it
-- has the number j
entry : (a z b rest : Bool) (P Q : Type 0) → cond a false (cond z false (cond b true rest)) ≡ true → cond z ⊥ (cond b P Q)
    → (a ≡ false) × (P ⊎ ((rest ≡ true) × Q))
entry true z b rest P Q e p = absurd (false≢true e)
entry false true b rest P Q e p = absurd p
entry false false true rest P Q e p = (refl, inl p)
entry false false false rest P Q e p = (refl, inr (e, p))

-- where the number given is k, a condition before that does not hold; and where it is 0, none does
pub first_not : (cs : Conditions) (k : ℕ) → First cs k → (j : ℕ) → before cs j k ≡ true → ¬ (condition_of cs j)
first_not [] k f j e p = p
first_not (c ∷ cs) k f j e p =
    let o = entry (eqb k c.1) (eqb c.1 0) (eqb j c.1) (before cs j k) c.0 (condition_of cs j) e p in
    elim f [
      | inl x ↦ false≢true (sym o.0 ∙ eq-eqb k c.1 x.1)
      | inr x ↦ elim o.1 [ inl q ↦ x.0 q | inr q ↦ first_not cs k x.1 j q.0 q.1 ]
    ]

-- whether no condition has the number k, which is not 0
abbrev pub absent : Conditions → ℕ → Bool
absent [] k = not (eqb k 0)
absent (c ∷ l) k = cond (eqb k c.1) false (absent l k)

-- whether exactly one has it
abbrev pub once : Conditions → ℕ → Bool
once [] k = false
once (c ∷ l) k = pick k c.1 (absent l k) false (once l k)

-- a number that no condition has is not given
pub first_absent : (cs : Conditions) (k : ℕ) → First cs k → absent cs k ≡ true → ⊥
first_absent [] k f e = false≢true (sym (ap not (eq-eqb k 0 f)) ∙ e)
first_absent (c ∷ cs) k (inl x) e = false≢true (sym (ap (λ t. cond t false (absent cs k)) (eq-eqb k c.1 x.1)) ∙ e)
first_absent (c ∷ cs) k (inr x) e = first_absent cs k x.1 (kept (eqb k c.1) (absent cs k) e)
  where
    kept : (a rest : Bool) → cond a false rest ≡ true → rest ≡ true
    kept true rest e = absurd (false≢true e)
    kept false rest e = e

-- where the number given is k, and one condition alone has it, that condition holds
pub first_holds : (cs : Conditions) (k : ℕ) → First cs k → once cs k ≡ true → condition_of cs k
first_holds [] k f e = absurd (false≢true e)
first_holds (c ∷ cs) k f e = go (first_holds cs k) (eqb c.1 0) (eqb k c.1) refl e
  where
    go : (First cs k → once cs k ≡ true → condition_of cs k) → (z b : Bool) → b ≡ eqb k c.1
        → cond z false (cond b (absent cs k) (once cs k)) ≡ true → cond z ⊥ (cond b c.0 (condition_of cs k))
    go rest true b q e = absurd (false≢true e)
    go rest false true q e = elim f [ inl x ↦ x.0 | inr x ↦ absurd (first_absent cs k x.1 e) ]
    go rest false false q e = elim f [ inl x ↦ absurd (false≢true (q ∙ eq-eqb k c.1 x.1)) | inr x ↦ rest x.1 e ]

-- no condition before that of number k holds
abbrev pub NoneBefore : Conditions → ℕ → Type 0
NoneBefore [] k = Unit {0}
NoneBefore (c ∷ l) k = cond (eqb k c.1) (Unit {0}) ((¬ c.0) × NoneBefore l k)

first_given : (cs : Conditions) (k : ℕ) → NoneBefore cs k → condition_of cs k → First cs k
first_given [] k h p = absurd p
first_given (c ∷ cs) k h p = go (first_given cs k) (eqb c.1 0) (eqb k c.1) refl h p
  where
    go : (NoneBefore cs k → condition_of cs k → First cs k) → (z b : Bool) → b ≡ eqb k c.1
        → cond b (Unit {0}) ((¬ c.0) × NoneBefore cs k) → cond z ⊥ (cond b c.0 (condition_of cs k)) → First (c ∷ cs) k
    go rest true b q h p = absurd p
    go rest false true q h p = inl (p, eqb-true k c.1 (sym q))
    go rest false false q h p = inr (h.0, rest h.1 p)

-- so the number given is k exactly if its condition holds
pub first_when : (cs : Conditions) (m k : ℕ) → First cs m → NoneBefore cs k → once cs k ≡ true → (m ≡ k) ↔ condition_of cs k
first_when cs m k f h e = (λ q. first_holds cs k (rw q at f) e, λ p. first_only cs m k f (first_given cs k h p))

-- ---- conditions after others

-- whether no condition has the number 0
abbrev pub refusing : Conditions → Bool
refusing [] = true
refusing (c ∷ l) = cond (eqb c.1 0) false (refusing l)

-- where none of the first holds, those after them give the number
pub first_after : (cs ds : Conditions) (k j : ℕ) → refusing cs ≡ true → First cs k → k ≡ 0 → First ds j → First (cs ++ ds) j
first_after [] ds k j e f z g = g
first_after (c ∷ cs) ds k j e f z g = go (first_after cs ds k j) (eqb c.1 0) refl e
  where
    go : (refusing cs ≡ true → First cs k → k ≡ 0 → First ds j → First (cs ++ ds) j) → (b : Bool) → b ≡ eqb c.1 0
        → cond b false (refusing cs) ≡ true → First ((c ∷ cs) ++ ds) j
    go rest true q e = absurd (false≢true e)
    go rest false q e = elim f [ inl x ↦ absurd (false≢true (q ∙ eq-eqb c.1 0 (sym x.1 ∙ z))) | inr x ↦ inr (x.0, rest e x.1 z g) ]

-- the first of the two numbers that refuses is that of all of them
pub first_join : (cs ds : Conditions) (k j : ℕ) → refusing cs ≡ true → First cs k → (k ≡ 0 → First ds j) → First (cs ++ ds) (decided k j k)
first_join cs ds zero j e f g = first_after cs ds 0 j e f refl (g refl)
first_join cs ds (suc k) j e f g = first_more cs ds (suc k) f (λ z. omega (arith, z))
