-- The laws of the checks that every call makes first: 1, n is not 1 to 64; 2, the sheet isn't n + n × n words; of the check of two
-- vertices: 3, one of them is n or more; and of what a call answers and leaves, by what these checks gave. Assumes nothing.
use mathlib.Core.Path.{◌≡◌, refl, sym, ◌∙◌}
use mathlib.Core.Logic.{inl, inr}
use mathlib.Core.Bool.{◌||◌}
use mathlib.Core.List.{[]}
use Prim.Native.Nat.{ℕ, ◌≤◌, ◌<◌}
use native.Mathlib.Decide.{dec_lt, ℕ_discrete}
use native.Mathlib.Omega.{arith}
use lib.Dec.{ltb}
use lib.ListN.{length}
use Rattle.std.proofs.Common.{Result, Err}
use Rattle.answer.specs.declared.Refusal.{Refusal}
use Rattle.answer.specs.Table.{Conditions, First, Tests, Reflects}
use Rattle.answer.specs.Answers.{answer, decided, answered, number_of_refusal, answer_of}
use Rattle.sheet_theory.specs.Layout.{size}
use Rattle.sheet_theory.specs.Lent.{Lent, Lends}
use Rattle.sheet_theory.specs.Conditions.{BadVertices, BadLength, length_test, vertex_conditions, vertex_tests, sized, sized_tests}
use Rattle.answer.proofs.TableLaws.{Agree, reflects_or, reflects_not, reflects_lt, reflects_le, reflects_eq, first_only, first_rest, first_more}
use Rattle.answer.proofs.ByNumber.{first_not}
use Rattle.answer.proofs.OutcomeLaws.{refusal_some, refused_with, refused_leaves, accepted_with, accepted_leaves}

-- whether a sheet has the number of words
pub length_test_lem : (n : ℕ) (s : Lent) → Reflects (length_test n s) (BadLength n s)
unfolding BadLength
length_test_lem n s = reflects_not (reflects_eq (length s.words) (size n))

pub length_good : (n : ℕ) (s : Lent) → length s.words ≡ size n → ¬ (BadLength n s)
unfolding BadLength
length_good n s e d = d e

pub bad_length_cong : (n : ℕ) (s t : Lent) → length s.words ≡ length t.words → BadLength n s → BadLength n t
unfolding BadLength
bad_length_cong n s t e d q = d (e ∙ q)

-- a sheet of which neither holds has the shape
pub shape_not : (n : ℕ) (s : Lent) → ¬ (BadVertices n) → ¬ (BadLength n s) → Lends n s
unfolding BadLength
shape_not n s p q = record {
  low = elim (dec_lt n 1) [ yes l ↦ absurd (p (inl l)) | no l ↦ omega arith ];
  high = elim (dec_lt 64 n) [ yes l ↦ absurd (p (inr l)) | no l ↦ omega arith ];
  long = elim (ℕ_discrete (length s.words) (size n)) [ yes e ↦ e | no d ↦ absurd (q d) ];
}

few : (n : ℕ) → 1 ≤ n → n ≤ 64 → ¬ (BadVertices n)
few n p q c = elim c [ inl l ↦ omega arith | inr l ↦ omega arith ]

-- ---- the tests decide the conditions

vertices_test : (n : ℕ) → Reflects (ltb n 1 || ltb 64 n) (BadVertices n)
vertices_test n = reflects_or (reflects_lt n 1) (reflects_lt 64 n)

pub sized_agree : (n : ℕ) (s : Lent) (cs : Conditions) (ts : Tests) → (Lends n s → Agree cs ts) → Agree (sized n s cs) (sized_tests n s ts)
sized_agree n s cs ts h = (
  vertices_test n,
  refl,
  λ p. (length_test_lem n s, refl, λ q. h (shape_not n s p q)),
)

pub vertices_agree : (n i j : ℕ) (cs : Conditions) (ts : Tests) → Agree cs ts → Agree (vertex_conditions n i j cs) (vertex_tests n i j ts)
vertices_agree n i j cs ts a = (reflects_or (reflects_le n i) (reflects_le n j), refl, λ d. a)

-- ---- the check of the shape

module _ (n : ℕ) (s : Lent) where
  module _ (m : ℕ) (low : 1 ≤ n) (high : n ≤ 64) (em : m ≡ size n) where
    pub shape_long : (length s.words ≡ m → ⊥) → First (sized n s []) 2
    unfolding BadLength
    shape_long d = inr (few n low high, inl (λ e. d (e ∙ sym em), refl))

    pub shape_good : length s.words ≡ m → First (sized n s []) 0
    shape_good e = inr (few n low high, inr (length_good n s (e ∙ em), refl))

  -- a call that is not refused by 1 or 2 has the shape
  pub accepted_shape : (cs : Conditions) → First (sized n s cs) 0 → Lends n s
  accepted_shape cs f = shape_not n s (first_not (sized n s cs) 0 f 1 refl) (first_not (sized n s cs) 0 f 2 refl)

  -- of a sheet with the shape the number is that of the further conditions
  pub shape_passed : Lends n s → (cs : Conditions) (k : ℕ) → First cs k → First (sized n s cs) k
  shape_passed h cs k f = inr (few n h.low h.high, inr (length_good n s h.long, f))

  pub shape_rest : Lends n s → (cs : Conditions) (k : ℕ) → First (sized n s cs) k → First cs k
  shape_rest h cs k f = first_rest (length_good n s h.long) (first_rest (few n h.low h.high) f)

  -- k is the number that the check has given
  module _ (k : ℕ) (f : First (sized n s []) k) where
    -- one that is not 0 is the call's
    pub shape_refused : (k ≡ 0 → ⊥) → (cs : Conditions) → First (sized n s cs) k
    shape_refused d cs = first_more (sized n s []) cs k f d

-- ---- the check of two vertices

module _ (n i j : ℕ) where
  -- its way on
  pub vertex_good : i < n → j < n → First (vertex_conditions n i j []) 0
  vertex_good hi hj = inr (λ c. elim c [ inl l ↦ omega arith | inr l ↦ omega arith ], refl)

-- ---- the ways out of a call

-- m is the number of a call that looks for cs past the shape of its sheet
pub record Sized (n : ℕ) (s : Lent) (cs : Conditions) (m : ℕ) : Type 0 where
  pub first : First (sized n s cs) m

module _ {n : ℕ} {s : Lent} {cs : Conditions} {m : ℕ} (g : Sized n s cs m) where
  -- refused by the check of the shape
  module _ (e : Refusal) (f : First (sized n s []) (number_of_refusal e)) where
    by_shape : First (sized n s cs) (number_of_refusal e)
    by_shape = shape_refused n s (number_of_refusal e) f (refusal_some e) cs

    pub unsized_answer : (v : ℕ) (o : Result ℕ Refusal) → o ≡ Err e → answer_of o ≡ answered m v
    unsized_answer v o eo = refused_with (sized n s cs) m g.first v o e eo by_shape

    pub unsized_after : {A : Type 0} (new old : A) → old ≡ decided m new old
    unsized_after new old = refused_leaves (sized n s cs) m g.first new old e by_shape

  -- or past it
  module _ (f : First (sized n s []) 0) where
    past : (k : ℕ) → First cs k → First (sized n s cs) k
    past k h = shape_passed n s (accepted_shape n s [] f) cs k h

    pub number_past : (k : ℕ) → First cs k → k ≡ m
    number_past k h = first_only (sized n s cs) k m (past k h) g.first

    module _ (e : Refusal) (h : First cs (number_of_refusal e)) where
      pub refused_answer : (v : ℕ) (o : Result ℕ Refusal) → o ≡ Err e → answer_of o ≡ answered m v
      refused_answer v o eo = refused_with (sized n s cs) m g.first v o e eo (past _ h)

      pub refused_after : {A : Type 0} (new old : A) → old ≡ decided m new old
      refused_after new old = refused_leaves (sized n s cs) m g.first new old e (past _ h)

    -- or accepted
    module _ (h : First cs 0) where
      pub accepted_answer : (v x : ℕ) → x ≡ v → answer 0 0 x ≡ answered m v
      accepted_answer v x ex = accepted_with (sized n s cs) m g.first v x (past 0 h) ex

      pub accepted_after : {A : Type 0} (new old t : A) → t ≡ new → t ≡ decided m new old
      accepted_after new old t et = accepted_leaves (sized n s cs) m g.first new old t (past 0 h) et
