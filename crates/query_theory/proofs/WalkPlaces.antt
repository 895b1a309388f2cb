-- The walk by a rank, by its places, whatever the edges and counts: at each place it goes on along the edge whose count is above what is
-- left of the rank, once the counts of the edges before it are taken off. Assumes nothing.
use mathlib.Core.Path.{◌≡◌, refl, sym, ap, ◌∙◌}
use mathlib.Core.Logic.{◌⊎◌, inl, inr, ◌↔◌}
use mathlib.Core.List.{List, [], ◌∷◌}
use Prim.Native.Nat.{ℕ, zero, suc, ◌+◌, ◌*◌, ◌≤◌, ◌<◌}
use native.Mathlib.Decide.{ℕ_discrete}
use native.Mathlib.Omega.{arith}
use lib.ListN.{length, get_or}
use Rattle.sums.specs.Sum.{sum}
use Rattle.query_theory.specs.Walk.{Turn, goes, passes, headed, tried, walked}
use Rattle.query_theory.specs.PassedOver.{passed}
use Rattle.query_theory.proofs.WalkLaws.{walked_none, walked_here, walked_left, walked_goes, walked_passes, tried_goes, tried_of}

-- of walks to j in a graph of n vertices
module _ (n : ℕ) (w C : ℕ → ℕ → ℕ) (j : ℕ) where
  -- a step from a, where k is left of the rank, to b, where k' is left: the counts to j along the edges from a to the vertices below b are
  -- taken off, and what is left is below the count from b
  pub record WalkStep (a b k k' : ℕ) : Type 0 where
    pub away : ¬ (a ≡ j)
    pub vertex : b < n
    pub edge : 0 < w a b
    pub taken : k ≡ sum b (λ c. w a c * C c j) + k'
    pub below : k' < C b j

  -- p are the vertices of a walk from i to j by the rank k, at most m of them, where left x is what is left of the rank at the place x
  pub record Arrives (m i k : ℕ) (p : List ℕ) (left : ℕ → ℕ) : Type 0 where
    pub some : 0 < length p
    pub short : length p ≤ m
    pub from : get_or p 0 0 ≡ i
    pub whole : left 0 ≡ k
    pub steps : (x : ℕ) → suc x < length p → WalkStep (get_or p x 0) (get_or p (suc x) 0) (left x) (left (suc x))
    pub to : (x : ℕ) → suc x ≡ length p → (get_or p x 0 ≡ j) × (left x ≡ 0)

  module _ (one : (i a : ℕ) → w i a ≤ 1) where
    -- ---- the walk has such places

    -- the walk from i by the rank k, of at most m vertices, arrives
    abbrev Found : ℕ → ℕ → ℕ → Type 0
    Found m i k = (l : List ℕ) × (left : ℕ → ℕ) × (walked w C j n m i k ≡ i ∷ l) × Arrives m i k (i ∷ l) left

    -- a number, and then those that f gives
    abbrev onto : ℕ → (ℕ → ℕ) → ℕ → ℕ
    onto k f zero = k
    onto k f (suc x) = f x

    arrives_here : (m i k : ℕ) → i ≡ j → k ≡ 0 → Arrives (suc m) i k (i ∷ []) (onto k (λ x. 0))
    arrives_here m i k e z = record {
      some = omega arith;
      short = omega arith;
      from = refl;
      whole = refl;
      steps = λ x h. absurd (omega arith);
      to = to;
    }
      where
        to : (x : ℕ) → suc x ≡ 1 → (get_or (i ∷ []) x 0 ≡ j) × (onto k (λ x. 0) x ≡ 0)
        to zero h = (e, z)
        to (suc x) h = absurd (omega arith)

    -- a vertex put before a walk
    arrives_next : (m i k b k' : ℕ) (l : List ℕ) (left : ℕ → ℕ) → WalkStep i b k k' → Arrives m b k' (b ∷ l) left → Arrives (suc m) i k (i ∷ b ∷ l) (onto k left)
    arrives_next m i k b k' l left t r = record {
      some = omega arith;
      short = omega (arith, r.short);
      from = refl;
      whole = refl;
      steps = steps;
      to = to;
    }
      where
        steps : (x : ℕ) → suc x < length (i ∷ b ∷ l) → WalkStep (get_or (i ∷ b ∷ l) x 0) (get_or (b ∷ l) x 0) (onto k left x) (left x)
        steps zero h = rw r.whole t
        steps (suc x) h = r.steps x (omega arith)

        to : (x : ℕ) → suc x ≡ length (i ∷ b ∷ l) → (get_or (i ∷ b ∷ l) x 0 ≡ j) × (onto k left x ≡ 0)
        to zero h = absurd (omega arith)
        to (suc x) h = r.to x (omega arith)

    step_of : (i k b k' : ℕ) → ¬ (i ≡ j) → tried w C j i k n ≡ goes b k' → WalkStep i b k k'
    unfolding passed
    step_of i k b k' away t =
        let f = tried_of n w C j one i k b k' t in
        record { away = away; vertex = f.0; edge = f.1; taken = f.2; below = f.3 }

    -- a walk arrives nowhere, or it has such places
    walked_found : (m i k : ℕ) → (walked w C j n m i k ≡ []) ⊎ Found m i k
    unfolding headed
    walked_found zero i k = inl (walked_none n w C j i k)
    walked_found (suc m) i k =
        elim (ℕ_discrete i j) [
          | yes e ↦ elim (ℕ_discrete k 0) [
            | yes z ↦ inr ([], onto k (λ x. 0), walked_here n w C j m i k e z, arrives_here m i k e z)
            | no d ↦ inl (walked_left n w C j m i k e d)
          ]
          | no away ↦ go away (tried w C j i k n) refl (λ b k'. walked_found m b k')
        ]
      where
        go : ¬ (i ≡ j) → (t : Turn) → tried w C j i k n ≡ t → ((b k' : ℕ) → (walked w C j n m b k' ≡ []) ⊎ Found m b k')
            → (walked w C j n (suc m) i k ≡ []) ⊎ Found (suc m) i k
        go away (passes k') t r = inl (walked_passes n w C j m i k k' away t)
        go away (goes b k') t r =
            elim (r b k') [
              | inl z ↦ inl (walked_goes n w C j m i k b k' away t ∙ ap (headed i) z)
              | inr f ↦ inr (
                b ∷ f.0,
                onto k f.1,
                walked_goes n w C j m i k b k' away t ∙ ap (headed i) f.2,
                arrives_next m i k b k' f.0 f.1 (step_of i k b k' away t) f.3,
              )
            ]

    -- ---- and no other vertices do

    arrives_walked : (m i k : ℕ) (p : List ℕ) (left : ℕ → ℕ) → Arrives m i k p left → walked w C j n m i k ≡ p
    unfolding headed passed
    arrives_walked m i k [] left r = absurd (omega (arith, r.some))
    arrives_walked zero i k (a ∷ l) left r = absurd (omega (arith, r.short))
    arrives_walked (suc m) i k (a ∷ []) left r =
        let e = r.to 0 refl in
        rw (← r.from, ← r.whole) (walked_here n w C j m a (left 0) e.0 e.1)
    arrives_walked (suc m) i k (a ∷ b ∷ l) left r =
        let t = r.steps 0 (omega arith) in
        let rest : Arrives m b (left 1) (b ∷ l) (λ x. left (suc x))
        = record {
          some = omega arith;
          short = omega (arith, r.short);
          from = refl;
          whole = refl;
          steps = λ x h. r.steps (suc x) (omega arith);
          to = λ x h. r.to (suc x) (omega arith);
        } in
        rw (← r.from, ← r.whole)
        (walked_goes n w C j m a (left 0) b (left 1) t.away (tried_goes n w C j one a (left 0) b (left 1) t.vertex t.edge t.taken t.below)
        ∙ ap (headed a) (arrives_walked m b (left 1) (b ∷ l) (λ x. left (suc x)) rest))

    -- the walk by a rank is p exactly if p has such places, whatever p of one vertex or more
    pub walked_places : (m i k : ℕ) (p : List ℕ) → ((walked w C j n m i k ≡ p) × (0 < length p)) ↔ ((left : ℕ → ℕ) × Arrives m i k p left)
    walked_places m i k p = (
      λ e. elim (walked_found m i k) [
        | inl z ↦ absurd (omega (arith, e.1, ap length (sym e.0 ∙ z)))
        | inr f ↦ (f.1, rw (sym f.2 ∙ e.0) at f.3)
      ],
      λ r. (arrives_walked m i k p r.0 r.1, r.1.some),
    )
