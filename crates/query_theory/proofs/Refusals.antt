-- THE TABLE for the questions: for every n, every length, all words, all bytes and all other arguments, a call's number is k exactly if
-- condition k of document 01's table holds and none before it, and 0 exactly if none holds; and a refusal has the value 0 and changes no
-- byte. Assumes nothing.
use mathlib.Core.Path.{◌≡◌, refl, ap}
use mathlib.Core.Logic.{◌⊎◌, inl, inr, ◌↔◌}
use mathlib.Core.List.{List, [], ◌∷◌}
use Prim.Native.Nat.{ℕ}
use native.Mathlib.Omega.{arith}
use lib.Dec.{eqb}
use lib.ListN.{length}
use Rattle.text.specs.Text.{written}
use Rattle.answer.specs.Table.{Conditions, First, Tests, first_true, Reflects}
use Rattle.answer.specs.Answers.{answer}
use Rattle.sheet_theory.specs.Layout.{edge_at}
use Rattle.sheet_theory.specs.Lent.{Lent, mult_at}
use Rattle.sheet_theory.specs.Conditions.{NoVertex, vertex_conditions, vertex_tests, sized, sized_tests}
use Rattle.answer.proofs.TableLaws.{Agree, reflects_none, reflects_iff, reflects_or, reflects_lt, reflects_le, reflects_eq, first_true_lem, first_iff}
use Rattle.sheet_theory.proofs.ShapeLaws.{Sized, sized_agree, vertices_agree}
use Rattle.answer.proofs.AnswerLaws.{answered_not, decided_old}
use Rattle.query_theory.specs.ReachesWithout.{edge_conditions, edge_tests, reaches_without_conditions, reaches_without_number, reaches_without_answer}
use Rattle.query_theory.specs.Unrank.{walk, buffer_conditions, buffer_tests, walk_conditions, walk_tests, unrank_conditions, unrank_number, unrank_answer, unrank_after}
use Rattle.query_theory.specs.Rank.{SomeNoVertex, some_no_vertex, Gap, gap, Broken, broken, path_conditions, path_tests, rank_conditions, rank_number, rank_answer}

-- ---- tests that decide

pub length_empty : (l : List ℕ) → length l ≡ 0 → l ≡ []
length_empty [] e = refl
length_empty (x ∷ l) e = absurd (omega arith)

-- 9, of a walk
empty_reflects : (l : List ℕ) → Reflects (eqb (length l) 0) (l ≡ [])
empty_reflects l = reflects_iff (length_empty l) (ap length) (reflects_eq (length l) 0)

-- 3, of a path: by its first entry and the others
pub no_vertex_cons : (n x : ℕ) (p : List ℕ) → (NoVertex n x ⊎ SomeNoVertex n p) ↔ SomeNoVertex n (x ∷ p)
no_vertex_cons n x p = (
  λ c. elim c [ inl l ↦ (x, inl refl, l) | inr q ↦ (q.0, inr q.1, q.2) ],
  λ q. elim q.1 [ inl e ↦ inl (rw e at q.2) | inr m ↦ inr (q.0, m, q.2) ],
)

some_no_vertex_reflects : (n : ℕ) (p : List ℕ) → Reflects (some_no_vertex n p) (SomeNoVertex n p)
unfolding some_no_vertex
some_no_vertex_reflects n [] = reflects_none (λ c. c.1)
some_no_vertex_reflects n (x ∷ p) =
    let e = no_vertex_cons n x p in
    reflects_iff e.0 e.1 (reflects_or (reflects_le n x) (some_no_vertex_reflects n p))

-- 12
gap_reflects : (s p : List ℕ) → Reflects (gap s p) (Gap s p)
unfolding gap
gap_reflects s [] = reflects_none (λ c. c)
gap_reflects s (x ∷ []) = reflects_none (λ c. c)
gap_reflects s (x ∷ y ∷ p) = reflects_or (reflects_eq (edge_at s x y) 0) (gap_reflects s (y ∷ p))

broken_reflects : (n : ℕ) (s p : List ℕ) → Reflects (broken n s p) (Broken n s p)
unfolding broken
broken_reflects n s p = reflects_or (reflects_eq (length p) 0) (reflects_or (reflects_lt n (length p)) (gap_reflects s p))

-- ---- THE TABLE

module _ (n : ℕ) (s : Lent) where
  -- the number of a call whose tests past the shape decide its conditions
  past_shape : (cs : Conditions) (ts : Tests) → Agree cs ts → Sized n s cs (first_true (sized_tests n s ts))
  past_shape cs ts a = record { first = first_true_lem (sized n s cs) (sized_tests n s ts) (sized_agree n s cs ts (λ h. a)) }

  pub reaches_without_first : (i j u v : ℕ)
      → Sized n s (vertex_conditions n i j (vertex_conditions n u v (edge_conditions n s u v))) (reaches_without_number n s i j u v)
  reaches_without_first i j u v =
      let cs : Conditions = edge_conditions n s u v in
      let ts : Tests = edge_tests n s u v in
      past_shape (vertex_conditions n i j (vertex_conditions n u v cs)) (vertex_tests n i j (vertex_tests n u v ts))
      (vertices_agree n i j (vertex_conditions n u v cs) (vertex_tests n u v ts) (vertices_agree n u v cs ts (reflects_eq (mult_at n s u v) 0, refl, λ d. tt)))

  pub unrank_first : (i j k len : ℕ)
      → Sized n s (vertex_conditions n i j (buffer_conditions n s i j k len (walk_conditions n s i j k))) (unrank_number n s i j k len)
  unrank_first i j k len =
      let cs : Conditions = buffer_conditions n s i j k len (walk_conditions n s i j k) in
      let ts : Tests = buffer_tests n s i j k len (walk_tests n s i j k) in
      past_shape (vertex_conditions n i j cs) (vertex_tests n i j ts)
      (vertices_agree n i j cs ts (reflects_lt len n, refl, λ p. (reflects_le _ _, refl, λ q. (empty_reflects (walk n s.words i j k), refl, λ r. tt))))

  pub rank_first : (p : List ℕ) → Sized n s (path_conditions n s p) (rank_number n s p)
  rank_first p =
      past_shape (path_conditions n s p) (path_tests n s p) (some_no_vertex_reflects n p, refl, λ d. (broken_reflects n s.words p, refl, λ r. tt))

  pub reaches_without_table : (i j u v k : ℕ) → ((reaches_without_answer n s i j u v).number ≡ k) ↔ First (reaches_without_conditions n s i j u v) k
  reaches_without_table i j u v k = first_iff (reaches_without_conditions n s i j u v) _ k (reaches_without_first i j u v).first

  pub unrank_table : (i j k len m : ℕ) → ((unrank_answer n s i j k len).number ≡ m) ↔ First (unrank_conditions n s i j k len) m
  unrank_table i j k len m = first_iff (unrank_conditions n s i j k len) _ m (unrank_first i j k len).first

  pub rank_table : (p : List ℕ) (k : ℕ) → ((rank_answer n s p).number ≡ k) ↔ First (rank_conditions n s p) k
  rank_table p k = first_iff (rank_conditions n s p) _ k (rank_first p).first

-- a refused `unrank` has the value 0 and changes no byte
pub unrank_refused : (n : ℕ) (s : Lent) (i j k : ℕ) (buffer : List ℕ) → ¬ ((unrank_answer n s i j k (length buffer)).number ≡ 0)
    → (unrank_answer n s i j k (length buffer) ≡ answer (unrank_number n s i j k (length buffer)) 0 0) × (unrank_after n s i j k buffer ≡ buffer)
unrank_refused n s i j k buffer d =
    (answered_not (unrank_number n s i j k (length buffer)) _ d, decided_old _ (written (walk n s.words i j k) buffer) buffer d)
