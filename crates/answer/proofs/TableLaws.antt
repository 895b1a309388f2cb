-- The laws of the table: a test decides its condition, and the first test that is true finds the first condition that holds.
-- Assumes nothing.
use mathlib.Core.Path.{◌≡◌, refl, sym, ◌∙◌}
use mathlib.Core.Logic.{◌⊎◌, inl, inr, ◌↔◌}
use mathlib.Core.Bool.{Bool, true, false, not, ◌||◌, false≢true}
use mathlib.Core.List.{[], ◌∷◌, ◌++◌}
use Prim.Native.Nat.{ℕ, suc, ◌≤◌, ◌<◌}
use native.Mathlib.Omega.{arith}
use borrow.Author.Tests.{ltb-true, leb-true, eqb-true, lt-ltb, le-leb, eq-eqb}
use lib.Dec.{ltb, leb, eqb}
use Rattle.answer.specs.Table.{◌gives◌, Conditions, First, Tests, first_true, Reflects}

-- ---- tests that decide

-- a test that is false refutes, and a statement that is refuted has a false test
pub reflects_false : {t : Bool} {P : Type 0} → Reflects t P → (t ≡ false) ↔ (¬ P)
reflects_false {t = true} p = (λ e x. false≢true (sym e), λ h. absurd (h (p.holds refl)))
reflects_false {t = false} p = (λ e x. false≢true (p.shows x), λ h. refl)

pub reflects_true : {P : Type 0} → P → Reflects true P
reflects_true x = record { holds = λ e. x; shows = λ y. refl }

pub reflects_none : {P : Type 0} → (¬ P) → Reflects false P
reflects_none h = record { holds = λ e. absurd (false≢true e); shows = λ x. absurd (h x) }

pub reflects_iff : {t : Bool} {P Q : Type 0} → (P → Q) → (Q → P) → Reflects t P → Reflects t Q
reflects_iff f g p = record { holds = λ e. f (p.holds e); shows = λ x. p.shows (g x) }

pub reflects_or : {a b : Bool} {P Q : Type 0} → Reflects a P → Reflects b Q → Reflects (a || b) (P ⊎ Q)
reflects_or {a = true} p q = reflects_true (inl (p.holds refl))
reflects_or {a = false} p q = record {
  holds = λ e. inr (q.holds e);
  shows = λ c. elim c [ inl x ↦ absurd (false≢true (p.shows x)) | inr x ↦ q.shows x ];
}

pub reflects_not : {t : Bool} {P : Type 0} → Reflects t P → Reflects (not t) (¬ P)
reflects_not {t = true} p = reflects_none (λ h. h (p.holds refl))
reflects_not {t = false} p = reflects_true (λ x. false≢true (p.shows x))

pub reflects_lt : (x y : ℕ) → Reflects (ltb x y) (x < y)
reflects_lt x y = record { holds = ltb-true x y; shows = lt-ltb x y }

pub reflects_le : (x y : ℕ) → Reflects (leb x y) (x ≤ y)
reflects_le x y = record { holds = leb-true x y; shows = le-leb x y }

pub reflects_eq : (x y : ℕ) → Reflects (eqb x y) (x ≡ y)
reflects_eq x y = record { holds = eqb-true x y; shows = eq-eqb x y }

-- ---- the first

-- each test decides its condition, once those before it do not hold, and gives the same number
abbrev pub Agree : Conditions → Tests → Type 0
Agree [] [] = Unit {0}
Agree [] (t ∷ ts) = ⊥
Agree (c ∷ cs) [] = ⊥
Agree (c ∷ cs) (t ∷ ts) = Reflects t.0 c.0 × (t.1 ≡ c.1) × ((¬ c.0) → Agree cs ts)

pub first_true_lem : (cs : Conditions) (ts : Tests) → Agree cs ts → First cs (first_true ts)
unfolding first_true
first_true_lem [] [] a = refl
first_true_lem [] (t ∷ ts) a = absurd a
first_true_lem (c ∷ cs) [] a = absurd a
first_true_lem (c ∷ cs) ((true, k) ∷ ts) a = inl (a.0.holds refl, a.1)
first_true_lem (c ∷ cs) ((false, k) ∷ ts) a = let d : ¬ c.0 = λ p. false≢true (a.0.shows p) in inr (d, first_true_lem cs ts (a.2 d))

-- the first condition that holds is one
pub first_only : (cs : Conditions) (j k : ℕ) → First cs j → First cs k → j ≡ k
first_only [] j k p q = p ∙ sym q
first_only (c ∷ cs) j k (inl p) (inl q) = p.1 ∙ sym q.1
first_only (c ∷ cs) j k (inl p) (inr q) = absurd (q.0 p.0)
first_only (c ∷ cs) j k (inr p) (inl q) = absurd (p.0 q.0)
first_only (c ∷ cs) j k (inr p) (inr q) = first_only cs j k p.1 q.1

-- so a number that is the first's is k exactly if k is the number of the first condition that holds
pub first_iff : (cs : Conditions) (m k : ℕ) → First cs m → (m ≡ k) ↔ First cs k
first_iff cs m k f = (λ e. rw e at f, first_only cs m k f)

-- where the number is 0 the first condition does not hold, and none after it does
pub first_past : {P Q : Type 0} {k : ℕ} → ((P × (0 ≡ suc k)) ⊎ ((¬ P) × Q)) → (¬ P) × Q
first_past (inl p) = absurd (omega (arith, p.1))
first_past (inr p) = p

-- where a condition does not hold, those after it give the number
pub first_rest : {P Q : Type 0} {j k : ℕ} → ¬ P → ((P × (k ≡ j)) ⊎ ((¬ P) × Q)) → Q
first_rest d (inl p) = absurd (d p.0)
first_rest d (inr p) = p.1

-- the last condition gives its number exactly if it holds
pub first_last : {P : Type 0} {m k : ℕ} → First (P gives suc m ∷ []) k → (k ≡ suc m) ↔ P
first_last (inl p) = (λ e. p.0, λ q. p.1)
first_last (inr p) = (λ e. absurd (omega (arith, p.1)), λ q. absurd (p.0 q))

-- and 0 exactly if it does not
pub first_accepts : {P : Type 0} {m k : ℕ} → First (P gives suc m ∷ []) k → (k ≡ 0) ↔ (¬ P)
first_accepts (inl p) = (λ e. absurd (omega (arith, p.1)), λ d. absurd (d p.0))
first_accepts (inr p) = (λ e. p.0, λ d. p.1)

-- conditions that hold together give the same number
pub first_both : {P Q X Y : Type 0} {m k : ℕ} → P ↔ Q → (X → Y) → ((P × (k ≡ m)) ⊎ ((¬ P) × X)) → (Q × (k ≡ m)) ⊎ ((¬ Q) × Y)
first_both e h (inl p) = inl (e.0 p.0, p.1)
first_both e h (inr p) = inr (λ q. p.0 (e.1 q), h p.1)

-- the same, with the conditions that follow written out
pub first_cong : {P Q : Type 0} (m : ℕ) (cs ds : Conditions) (k : ℕ) → P ↔ Q → (First cs k → First ds k) → First (P gives m ∷ cs) k → First (Q gives m ∷ ds) k
first_cong m cs ds k = first_both

-- after the same conditions those that follow may be changed for others that give the same number
pub first_under : (before cs ds : Conditions) (k : ℕ) → (First cs k → First ds k) → First (before ++ cs) k → First (before ++ ds) k
first_under [] cs ds k h f = h f
first_under (c ∷ before) cs ds k h (inl p) = inl p
first_under (c ∷ before) cs ds k h (inr p) = inr (p.0, first_under before cs ds k h p.1)

-- a number that is not 0 stands, whatever conditions follow
pub first_more : (cs ds : Conditions) (k : ℕ) → First cs k → (k ≡ 0 → ⊥) → First (cs ++ ds) k
first_more [] ds k p d = absurd (d p)
first_more (c ∷ cs) ds k (inl p) d = inl p
first_more (c ∷ cs) ds k (inr p) d = inr (p.0, first_more cs ds k p.1 d)
