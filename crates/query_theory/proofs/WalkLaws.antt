-- The laws of trying edges, of the counts passed over, and of the walk by a rank, for any tables of edges and of counts. Assumes
-- nothing.
use mathlib.Core.Path.{◌≡◌, refl, ap}
use mathlib.Core.Bool.{Bool, true, false, cond}
use mathlib.Core.List.{[], ◌∷◌}
use Prim.Native.Nat.{ℕ, zero, suc, ◌+◌, ◌-◌, ◌*◌, ◌≤◌, ◌<◌}
use native.Mathlib.Nat.{zero-mul, one-mul, add-zero}
use native.Mathlib.Decide.{ℕ_discrete, dec_lt}
use native.Mathlib.Omega.{arith}
use borrow.Author.Tests.{ltb-true, ltb-false, eq-eqb, ne_eqb}
use lib.Dec.{ltb}
use Rattle.sums.specs.Sum.{sum}
use Rattle.sums.proofs.SumLaws.{sum_longer}
use Rattle.query_theory.specs.Walk.{Turn, goes, passes, headed, try_edge, tried, walked}
use Rattle.query_theory.specs.PassedOver.{passed}

-- ---- the walk, by cases

module _ (n : ℕ) (w C : ℕ → ℕ → ℕ) (j : ℕ) where
  pub walked_none : (i k : ℕ) → walked w C j n zero i k ≡ []
  unfolding walked
  walked_none i k = refl

  pub walked_here : (m i k : ℕ) → i ≡ j → k ≡ 0 → walked w C j n (suc m) i k ≡ i ∷ []
  unfolding walked
  walked_here m i k e z = rw (eq-eqb i j e, eq-eqb k 0 z)

  pub walked_left : (m i k : ℕ) → i ≡ j → ¬ (k ≡ 0) → walked w C j n (suc m) i k ≡ []
  unfolding walked
  walked_left m i k e d = rw (eq-eqb i j e, ne_eqb k 0 d)

  pub walked_goes : (m i k b k' : ℕ) → ¬ (i ≡ j) → tried w C j i k n ≡ goes b k' → walked w C j n (suc m) i k ≡ headed i (walked w C j n m b k')
  unfolding walked
  walked_goes m i k b k' d e = rw (ne_eqb i j d, e)

  pub walked_passes : (m i k k' : ℕ) → ¬ (i ≡ j) → tried w C j i k n ≡ passes k' → walked w C j n (suc m) i k ≡ []
  unfolding walked
  walked_passes m i k k' d e = rw (ne_eqb i j d, e)

-- ---- the counts passed over from one vertex

module _ (n : ℕ) (w C : ℕ → ℕ → ℕ) (j : ℕ) (one : (i a : ℕ) → w i a ≤ 1) where
  pub passed_skip : (i b : ℕ) → w i b ≡ 0 → passed w C j i (suc b) ≡ passed w C j i b
  unfolding passed sum
  passed_skip i b z = rw (z, zero-mul (C b j)) (add-zero _)

  pub passed_next : (i b : ℕ) → 0 < w i b → passed w C j i (suc b) ≡ passed w C j i b + C b j
  unfolding passed sum
  passed_next i b h = let e : w i b ≡ 1 = omega (arith, one i b) in rw (e, one-mul (C b j))

  passed_le : (i b c : ℕ) → b ≤ c → passed w C j i b ≤ passed w C j i c
  unfolding passed
  passed_le i b c h = sum_longer b c (λ a. w i a * C a j) h

  -- what is passed over on the way to b and less than the count from b is less than what is passed over on the way further than b
  pub passed_within : (i b c k : ℕ) → 0 < w i b → b < c → k < C b j → passed w C j i b + k < passed w C j i c
  passed_within i b c k p h l = omega (arith, passed_next i b p, passed_le i (suc b) c h)

  -- ---- trying edges

  -- what is known of a turn once the edges from i to the vertices below b are tried
  abbrev Came : ℕ → ℕ → ℕ → Turn → Type 0
  Came i k b (goes a k') = (a < b) × (0 < w i a) × (k ≡ passed w C j i a + k') × (k' < C a j)
  Came i k b (passes k') = k ≡ passed w C j i b + k'

  came_next : (i k b : ℕ) (t : Turn) → Came i k b t → Came i k (suc b) (try_edge w C j i b t)
  unfolding try_edge
  came_next i k b (goes a k') h = (omega (arith, h.0), h.1, h.2, h.3)
  came_next i k b (passes k') h = go (ltb 0 (w i b)) refl (ltb k' (C b j)) refl
    where
      go : (t : Bool) → ltb 0 (w i b) ≡ t → (u : Bool) → ltb k' (C b j) ≡ u
          → Came i k (suc b) (cond t (cond u (goes b k') (passes (k' - C b j))) (passes k'))
      go true e true f = (omega arith, ltb-true _ _ e, h, ltb-true _ _ f)
      go true e false f = omega (arith, h, passed_next i b (ltb-true 0 (w i b) e), ltb-false k' (C b j) f)
      go false e true f = omega (arith, h, passed_skip i b (omega (arith, ltb-false 0 (w i b) e)))
      go false e false f = omega (arith, h, passed_skip i b (omega (arith, ltb-false 0 (w i b) e)))

  came : (i k b : ℕ) → Came i k b (tried w C j i k b)
  unfolding tried passed sum
  came i k zero = omega arith
  came i k (suc b) = came_next i k b (tried w C j i k b) (came i k b)

  -- the way back: where the walk goes, an edge runs, and k is the count passed over and what is left, below the count from there
  pub tried_of : (i k b k' : ℕ) → tried w C j i k n ≡ goes b k' → (b < n) × (0 < w i b) × (k ≡ passed w C j i b + k') × (k' < C b j)
  tried_of i k b k' e = rw e at (came i k n)

  tried_left : (i k k' : ℕ) → tried w C j i k n ≡ passes k' → k ≡ passed w C j i n + k'
  tried_left i k k' e = rw e at (came i k n)

  -- the walk goes to one vertex alone
  goes_only : (i k b k' : ℕ) → b < n → 0 < w i b → k ≡ passed w C j i b + k' → k' < C b j → (t : Turn) → Came i k n t → t ≡ goes b k'
  goes_only i k b k' hb p e l (passes l') q = absurd (omega (arith, e, q, passed_within i b n k' p hb l))
  goes_only i k b k' hb p e l (goes a l') q =
      elim (ℕ_discrete a b) [
        | yes s ↦ let f : l' ≡ k' = omega (arith, q.2, e, ap (passed w C j i) s) in rw (s, f)
        | no d ↦ elim (dec_lt a b) [
          | yes h ↦ absurd (omega (arith, q.2, e, passed_within i a b l' q.1 h q.3))
          | no h ↦ absurd (omega (arith, q.2, e, passed_within i b a k' p (omega arith) l))
        ]
      ]

  pub tried_goes : (i k b k' : ℕ) → b < n → 0 < w i b → k ≡ passed w C j i b + k' → k' < C b j → tried w C j i k n ≡ goes b k'
  tried_goes i k b k' hb p e l = goes_only i k b k' hb p e l (tried w C j i k n) (came i k n)

  passes_only : (i k k' : ℕ) → k ≡ passed w C j i n + k' → (t : Turn) → Came i k n t → t ≡ passes k'
  passes_only i k k' e (passes l) q = let f : l ≡ k' = omega (arith, q, e) in rw f
  passes_only i k k' e (goes a l) q = absurd (omega (arith, q.2, e, passed_within i a n l q.1 q.0 q.3))

  pub tried_passes : (i k k' : ℕ) → k ≡ passed w C j i n + k' → tried w C j i k n ≡ passes k'
  tried_passes i k k' e = passes_only i k k' e (tried w C j i k n) (came i k n)

  -- for a rank below all counts that can be passed over the walk goes somewhere
  pub tried_below : (i k : ℕ) → k < passed w C j i n → (b : ℕ) × (k' : ℕ) × (tried w C j i k n ≡ goes b k')
  tried_below i k h = go (tried w C j i k n) refl
    where
      go : (t : Turn) → tried w C j i k n ≡ t → (b : ℕ) × (k' : ℕ) × (tried w C j i k n ≡ goes b k')
      go (goes b k') e = (b, k', e)
      go (passes k') e = absurd (omega (arith, tried_left i k k' e))
