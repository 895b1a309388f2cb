-- The rank of a walk that arrives is the rank that it was walked by, whatever the edges and counts. Where there is no cycle and the
-- counts are the numbers of paths, the walk by the rank of a path is that path, and its rank is how many paths are before it. Assumes
-- nothing.
use mathlib.Core.Path.{◌≡◌, refl, sym, ap, ◌∙◌}
use mathlib.Core.Logic.{◌⊎◌, inl, inr, ◌↔◌}
use mathlib.Core.List.{List, [], ◌∷◌}
use Prim.Native.Nat.{ℕ, zero, suc, ◌+◌, ◌*◌, ◌≤◌, ◌<◌}
use native.Mathlib.Decide.{ℕ_discrete}
use native.Mathlib.Omega.{arith}
use lib.ListN.{length}
use Rattle.sums.specs.Sum.{sum}
use Rattle.sums.proofs.SumLaws.{sum_cong, delta_diff}
use Rattle.graph.specs.Graph.{Walk, IsPath, PathsWithExactly, Acyclic}
use Rattle.graph.specs.Count.{path_count}
use Rattle.graph.proofs.Lists.{exactly_below}
use Rattle.graph.proofs.Walks.{walk_below, walk_end, path_length_le, cycle_of}
use Rattle.graph.proofs.Deep.{Deep, deep}
use Rattle.graph.proofs.Recurrence.{path_count_recurrence, path_count_self}
use Rattle.graph.proofs.Counting.{walk_path}
use Rattle.query_theory.specs.Before.{Before}
use Rattle.query_theory.specs.Walk.{Turn, goes, passes, headed, tried, walked}
use Rattle.query_theory.specs.PassedOver.{passed, passed_over}
use Rattle.query_theory.proofs.WalkLaws.{walked_none, walked_here, walked_left, walked_goes, walked_passes, passed_within, tried_goes, tried_of, tried_below}
use Rattle.query_theory.proofs.BeforeLaws.{before_total}

-- the ends of a path are vertices
pub path_ends : (n : ℕ) (w : ℕ → ℕ → ℕ) (i j : ℕ) (l : List ℕ) → IsPath n w i j l → (i < n) × (j < n)
path_ends n w i j [] p = absurd p
path_ends n w i j (a ∷ l) p = (
  rw p.0 at p.1,
  elim (walk_end n w a l j p.2) [ inl e ↦ rw e p.1 | inr m ↦ walk_below n w a l j p.2 j m ],
)

-- ---- any tables of edges and of counts

module _ (n : ℕ) (w C : ℕ → ℕ → ℕ) (one : (i a : ℕ) → w i a ≤ 1) where
  -- the walk from i by the rank k, of at most m vertices, is i and then l, a walk to j whose rank is k
  pub record Finds (m i j k : ℕ) : Type 0 where
    pub l : List ℕ
    pub vertices : walked w C j n m i k ≡ i ∷ l
    pub walk : Walk n w i l j
    pub rank : passed_over w C j (i ∷ l) ≡ k
    pub short : length l < m

  finds_here : (m i j k : ℕ) → i ≡ j → k ≡ 0 → Finds (suc m) i j k
  unfolding passed_over
  finds_here m i j k e z = record { l = []; vertices = walked_here n w C j m i k e z; walk = e; rank = sym z; short = omega arith }

  finds_next : (m i j k b k' : ℕ) → ¬ (i ≡ j) → tried w C j i k n ≡ goes b k' → Finds m b j k' → Finds (suc m) i j k
  unfolding passed_over headed
  finds_next m i j k b k' away t r =
      let f = tried_of n w C j one i k b k' t in
      record {
        l = b ∷ r.l;
        vertices = walked_goes n w C j m i k b k' away t ∙ ap (headed i) r.vertices;
        walk = (f.0, f.1, r.walk);
        rank = ap (λ x. passed w C j i b + x) r.rank ∙ sym f.2;
        short = omega (arith, r.short);
      }

  -- a walk arrives nowhere, or it is such a walk
  pub walked_finds : (m i j k : ℕ) → (walked w C j n m i k ≡ []) ⊎ Finds m i j k
  unfolding headed
  walked_finds zero i j k = inl (walked_none n w C j i k)
  walked_finds (suc m) i j k =
      elim (ℕ_discrete i j) [
        | yes e ↦ elim (ℕ_discrete k 0) [ yes z ↦ inr (finds_here m i j k e z) | no d ↦ inl (walked_left n w C j m i k e d) ]
        | no away ↦ go away (tried w C j i k n) refl (λ b k'. walked_finds m b j k')
      ]
    where
      go : ¬ (i ≡ j) → (t : Turn) → tried w C j i k n ≡ t → ((b k' : ℕ) → (walked w C j n m b k' ≡ []) ⊎ Finds m b j k')
          → (walked w C j n (suc m) i k ≡ []) ⊎ Finds (suc m) i j k
      go away (passes k') t r = inl (walked_passes n w C j m i k k' away t)
      go away (goes b k') t r =
          elim (r b k') [
            | inl z ↦ inl (walked_goes n w C j m i k b k' away t ∙ ap (headed i) z)
            | inr f ↦ inr (finds_next m i j k b k' away t f)
          ]

module _ (n : ℕ) (w C : ℕ → ℕ → ℕ) (acyclic : Acyclic n w) (one : (i a : ℕ) → w i a ≤ 1) (counts : (i j : ℕ) → i < n → j < n → C i j ≡ path_count n w i j) where
  -- ---- the counts

  count_self : (i j : ℕ) → i < n → i ≡ j → C i j ≡ 1
  count_self i j hi e = rw (← e) (counts i i hi hi ∙ path_count_self n w acyclic i hi)

  -- from one vertex to another there are as many paths as can be passed over
  count_passed : (i j : ℕ) → i < n → j < n → ¬ (i ≡ j) → C i j ≡ passed w C j i n
  unfolding passed
  count_passed i j hi hj d =
      let e : sum n (λ b. w i b * C b j) ≡ sum n (λ b. w i b * path_count n w b j) = sum_cong n _ _ (λ b hb. ap (λ x. w i b * x) (counts b j hb hj)) in
      omega (arith, counts i j hi hj, path_count_recurrence n w acyclic i j hi hj, delta_diff i j d)

  -- a walk of one edge or more does not come back
  walk_away : (i b : ℕ) (l : List ℕ) (j : ℕ) → i < n → Walk n w i (b ∷ l) j → ¬ (i ≡ j)
  walk_away i b l j hi p e = acyclic (cycle_of n w i b hi p.0 p.1 (l, rw (← e) at p.2))

  -- ---- walks: a path is one

  -- the rank of a walk is below the count
  walk_over_lt : (i : ℕ) (l : List ℕ) (j : ℕ) → i < n → j < n → Walk n w i l j → passed_over w C j (i ∷ l) < C i j
  unfolding passed_over
  walk_over_lt i [] j hi hj e = omega (arith, count_self i j hi e)
  walk_over_lt i (b ∷ l) j hi hj p =
      omega (
        arith,
        count_passed i j hi hj (walk_away i b l j hi p),
        passed_within n w C j one i b n (passed_over w C j (b ∷ l)) p.1 p.0 (walk_over_lt b l j p.0 hj p.2),
      )

  -- the walk by the rank of a walk is that walk
  over_walked : (m i : ℕ) (l : List ℕ) (j : ℕ) → i < n → j < n → Walk n w i l j → length l < m → walked w C j n m i (passed_over w C j (i ∷ l)) ≡ i ∷ l
  unfolding passed_over headed
  over_walked zero i l j hi hj p h = absurd (omega arith)
  over_walked (suc m) i [] j hi hj e h = walked_here n w C j m i 0 e refl
  over_walked (suc m) i (b ∷ l) j hi hj p h =
      let k = passed_over w C j (b ∷ l) in
      walked_goes n w C j m i (passed w C j i b + k) b k (walk_away i b l j hi p)
      (tried_goes n w C j one i (passed w C j i b + k) b k p.0 p.1 refl (walk_over_lt b l j p.0 hj p.2))
      ∙ ap (headed i) (over_walked m b l j p.0 hj p.2 (omega arith))

  -- so for every rank below the count
  walked_over : (m i j k : ℕ) → Deep n w m i → i < n → j < n → k < C i j → Finds n w C one m i j k
  walked_over zero i j k d hi hj h = absurd d
  walked_over (suc m) i j k d hi hj h =
      elim (ℕ_discrete i j) [
        | yes e ↦ finds_here n w C one m i j k e (omega (arith, count_self i j hi e))
        | no away ↦
            let t = tried_below n w C j one i k (omega (arith, count_passed i j hi hj away)) in
            let f = tried_of n w C j one i k t.0 t.1 t.2 in
            finds_next n w C one m i j k t.0 t.1 away t.2 (walked_over m t.0 j t.1 (d t.0 f.0 f.1) f.0 hj f.3)
      ]

  -- of two walks with the same ends the one before the other has the lower rank
  walk_before_lt : (i : ℕ) (l m : List ℕ) (j : ℕ) → i < n → j < n → Walk n w i l j → Walk n w i m j → Before l m
      → passed_over w C j (i ∷ l) < passed_over w C j (i ∷ m)
  unfolding passed_over
  walk_before_lt i [] m j hi hj p q h = absurd h
  walk_before_lt i (b ∷ l) [] j hi hj p q h = absurd h
  walk_before_lt i (b ∷ l) (c ∷ m) j hi hj p q h =
      elim h [
        | inl s ↦ omega (arith, passed_within n w C j one i b c (passed_over w C j (b ∷ l)) p.1 s (walk_over_lt b l j p.0 hj p.2))
        | inr s ↦
            let q' : Walk n w b m j = rw s.0 q.2 in
            let e : passed_over w C j (i ∷ c ∷ m) ≡ passed_over w C j (i ∷ b ∷ m) = ap (λ x. passed_over w C j (i ∷ x ∷ m)) (sym s.0) in
            omega (arith, e, walk_before_lt b l m j p.0 hj p.2 q' s.1)
      ]

  -- ---- paths

  -- the rank of a path is below the count
  pub passed_over_lt : (i j : ℕ) (l : List ℕ) → IsPath n w i j l → passed_over w C j l < C i j
  passed_over_lt i j [] p = absurd p
  passed_over_lt i j (a ∷ l) p = let h = path_ends n w i j (a ∷ l) p in rw (← p.0) (walk_over_lt a l j p.1 h.1 p.2)

  -- the walk by the rank of a path is that path
  pub path_walked : (i j : ℕ) (l : List ℕ) → IsPath n w i j l → walked w C j n n i (passed_over w C j l) ≡ l
  path_walked i j [] p = absurd p
  path_walked i j (a ∷ l) p =
      let h = path_ends n w i j (a ∷ l) p in
      rw (← p.0) (over_walked n a l j p.1 h.1 p.2 (path_length_le n w i j (a ∷ l) p))

  -- the walk by a rank below the count is a path, and its rank is that rank
  pub walked_path : (i j k : ℕ) → i < n → j < n → k < C i j → IsPath n w i j (walked w C j n n i k) × (passed_over w C j (walked w C j n n i k) ≡ k)
  walked_path i j k hi hj h =
      let r = walked_over n i j k (deep n w acyclic i hi) hi hj h in
      rw r.vertices (walk_path n w acyclic i r.l j hi r.walk, r.rank)

  before_lt : (i j : ℕ) (l m : List ℕ) → IsPath n w i j l → IsPath n w i j m → Before l m → passed_over w C j l < passed_over w C j m
  before_lt i j [] m p q h = absurd p
  before_lt i j (a ∷ l) [] p q h = absurd q
  before_lt i j (a ∷ l) (c ∷ m) p q h =
      let s : a ≡ c = p.0 ∙ sym q.0 in
      let b : Before l m = elim h [ inl t ↦ absurd (omega arith) | inr t ↦ t.1 ] in
      let e : passed_over w C j (c ∷ m) ≡ passed_over w C j (a ∷ m) = ap (λ x. passed_over w C j (x ∷ m)) (sym s) in
      let hj = (path_ends n w i j (a ∷ l) p).1 in
      omega (arith, e, walk_before_lt a l m j p.1 hj p.2 (rw s q.2) b)

  -- of two paths with the same ends the one before the other has the lower rank, and the other way round
  pub before_iff : (i j : ℕ) (l m : List ℕ) → IsPath n w i j l → IsPath n w i j m → Before l m ↔ (passed_over w C j l < passed_over w C j m)
  before_iff i j l m p q = (
    before_lt i j l m p q,
    λ h. elim (before_total n w i j l m p q) [
      | inl e ↦ absurd (omega (arith, ap (passed_over w C j) e))
      | inr c ↦ elim c [ inl b ↦ b | inr b ↦ absurd (omega (arith, before_lt i j m l q p b)) ]
    ],
  )

  -- THE NUMBER OF A PATH is how many paths with its ends are before it
  pub before_exactly : (i j : ℕ) (l : List ℕ) → IsPath n w i j l → PathsWithExactly n w i j (λ p. Before p l) (passed_over w C j l)
  before_exactly i j l p =
      let h = path_ends n w i j l p in
      let r : (k : ℕ) → k < passed_over w C j l → IsPath n w i j (walked w C j n n i k) × (passed_over w C j (walked w C j n n i k) ≡ k)
      = λ k g. walked_path i j k h.0 h.1 (omega (arith, passed_over_lt i j l p)) in
      exactly_below (passed_over w C j l) (walked w C j n n i) (passed_over w C j)
      (λ k g. ((r k g).0, (before_iff i j (walked w C j n n i k) l (r k g).0 p).1 (omega (arith, (r k g).1))))
      (λ k g. (r k g).1)
      (λ x q. ((before_iff i j x l q.0 p).0 q.1, path_walked i j x q.0))
