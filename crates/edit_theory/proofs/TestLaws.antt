-- The laws of the tests of specs/Outcome.antt: each decides a condition of specs/Table.antt, or `Closes`. Assumes nothing.
use mathlib.Core.Path.{◌≡◌, refl}
use mathlib.Core.Logic.{◌⊎◌, inl, inr}
use mathlib.Core.Bool.{Bool, true, false, ◌&&◌, false≢true}
use mathlib.Core.List.{List}
use Prim.Native.Nat.{ℕ, zero, suc, ◌<◌}
use native.Mathlib.Decide.{ℕ_discrete}
use native.Mathlib.Omega.{arith}
use Rattle.word.specs.Bit.{bit, has_bit}
use Rattle.graph.specs.Update.{into, out, through, Closes}
use Rattle.answer.specs.Table.{Reflects}
use Rattle.sheet_theory.specs.Layout.{count_at}
use Rattle.answer.proofs.TableLaws.{reflects_none, reflects_iff, reflects_or, reflects_eq, reflects_lt}
use Rattle.edit_theory.specs.Edit.{Edges, named_at, named}
use Rattle.edit_theory.specs.Outcome.{some, some_edge, closes}
use Rattle.edit_theory.specs.Table.{SomeEdge, SomeOf}

-- ---- tests put together

reflects_and : {a b : Bool} {P Q : Type 0} → Reflects a P → Reflects b Q → Reflects (a && b) (P × Q)
reflects_and {a = true} p q = record { holds = λ e. (p.holds refl, q.holds e); shows = λ c. q.shows c.1 }
reflects_and {a = false} p q = reflects_none (λ c. false≢true (p.shows c.0))

reflects_some : (n : ℕ) (f : ℕ → Bool) (P : ℕ → Type 0) → ((i : ℕ) → i < n → Reflects (f i) (P i)) → Reflects (some n f) ((i : ℕ) × (i < n) × P i)
unfolding some
reflects_some zero f P h = reflects_none (λ c. omega (arith, c.1))
reflects_some (suc n) f P h = reflects_iff more less (reflects_or (reflects_some n f P (λ i l. h i (omega arith))) (h n (omega arith)))
  where
    more : ((i : ℕ) × (i < n) × P i) ⊎ P n → (i : ℕ) × (i < suc n) × P i
    more (inl c) = (c.0, omega (arith, c.1), c.2)
    more (inr x) = (n, omega arith, x)

    less : ((i : ℕ) × (i < suc n) × P i) → ((i : ℕ) × (i < n) × P i) ⊎ P n
    less (i, l, x) = elim (ℕ_discrete i n) [ yes e ↦ inr (rw e at x) | no d ↦ inl (i, omega arith, x) ]

-- ---- the edges named

-- a test decides that it is true
reflects_self : (t : Bool) → Reflects t (t ≡ true)
reflects_self t = record { holds = λ e. e; shows = λ e. e }

reflects_bit : (x j : ℕ) → Reflects (has_bit x j) (bit x j ≡ 1)
reflects_bit x j = reflects_eq (bit x j) 1

pub named_reflects : (v a b i j : ℕ) → Reflects (named_at v a b i j) (((bit a i ≡ 1) × (j ≡ v)) ⊎ ((i ≡ v) × (bit b j ≡ 1)))
named_reflects v a b i j = reflects_or (reflects_and (reflects_bit a i) (reflects_eq j v)) (reflects_and (reflects_eq i v) (reflects_bit b j))

pub named_of : (v a b i j : ℕ) → named_at v a b i j ≡ true → ((bit a i ≡ 1) × (j ≡ v)) ⊎ ((i ≡ v) × (bit b j ≡ 1))
named_of v a b i j e = (named_reflects v a b i j).holds e

pub named_into : (v a b i : ℕ) → bit a i ≡ 1 → named_at v a b i v ≡ true
named_into v a b i e = (named_reflects v a b i v).shows (inl (e, refl))

pub named_out : (v a b j : ℕ) → bit b j ≡ 1 → named_at v a b v j ≡ true
named_out v a b j e = (named_reflects v a b v j).shows (inr (refl, e))

pub some_edge_reflects : (n : ℕ) (g : Edges) (f : ℕ → ℕ → Bool) (P : ℕ → ℕ → Type 0) → ((i j : ℕ) → i < n → j < n → Reflects (f i j) (P i j))
    → Reflects (some_edge n g f) (SomeEdge n g P)
unfolding some_edge
some_edge_reflects n g f P h =
    reflects_iff (λ c. (c.0, c.1, c.2.0, c.2.1, c.2.2.0, c.2.2.1)) (λ c. (c.0, c.1, (c.2, c.3, (c.4, c.5))))
    (reflects_some n _ _ (λ i hi. reflects_some n _ _ (λ j hj. reflects_and (reflects_self (named g i j)) (h i j hi hj))))

-- ---- the cycle

-- a test of the vertices of a mask
reflects_of : (n x : ℕ) (f : ℕ → Bool) (P : ℕ → Type 0) → ((k : ℕ) → Reflects (f k) (P k)) → Reflects (some n (λ k. has_bit x k && f k)) (SomeOf n x P)
reflects_of n x f P h =
    reflects_iff (λ c. (c.0, c.1, c.2.0, c.2.1)) (λ c. (c.0, c.1, (c.2, c.3)))
    (reflects_some n _ _ (λ k l. reflects_and (reflects_bit x k) (h k)))

module _ (n : ℕ) (s : List ℕ) (v a b : ℕ) where
  -- the three that `closes` looks for
  abbrev Three : Type 0
  Three =
      SomeOf n a (λ k. 0 < count_at n s v k)
      ⊎ (SomeOf n b (λ k. 0 < count_at n s k v)
      ⊎ SomeOf n b (λ i. SomeOf n a (λ j. 0 < count_at n s i j)))

  closing_of : Three → Closes n (count_at n s) v (bit a) (bit b)
  closing_of (inl (k, h, e, p)) = into k h (omega arith) p
  closing_of (inr (inl (k, h, e, p))) = out k h (omega arith) p
  closing_of (inr (inr (i, hi, ei, (j, hj, ej, p)))) = through j i hj hi (omega arith) (omega arith) p

  of_closing : Closes n (count_at n s) v (bit a) (bit b) → Three
  of_closing (into k h e p) = inl (k, h, omega arith, p)
  of_closing (out k h e p) = inr (inl (k, h, omega arith, p))
  of_closing (through j i hj hi ej ei p) = inr (inr (i, hi, omega arith, (j, hj, omega arith, p)))

  pub closes_reflects : Reflects (closes n s v a b) (Closes n (count_at n s) v (bit a) (bit b))
  unfolding closes
  closes_reflects =
      reflects_iff closing_of of_closing
      (reflects_or
      (reflects_of n a _ _ (λ k. reflects_lt 0 (count_at n s v k)))
      (reflects_or
      (reflects_of n b _ _ (λ k. reflects_lt 0 (count_at n s k v)))
      (reflects_of n b _ _ (λ i. reflects_of n a _ _ (λ j. reflects_lt 0 (count_at n s i j))))))
