-- Where there is no cycle and at most one edge from a vertex to another, `path_count i j` is the number of paths from i to j: the walks are listed,
-- each once, as many as `walks` counts, and they are the paths. Assumes nothing.
use mathlib.Core.Path.{◌≡◌, refl, sym, ap, ap₂, ◌∙◌}
use mathlib.Core.Logic.{◌↔◌, inl, inr}
use mathlib.Core.List.{List, [], ◌∷◌, ◌++◌}
use Prim.Native.Nat.{ℕ, zero, suc, ◌+◌, ◌*◌, ◌≤◌, ◌<◌}
use native.Mathlib.Nat.{zero-mul}
use native.Mathlib.Decide.{ℕ_discrete, dec_lt}
use native.Mathlib.Omega.{arith}
use lib.ListN.{length, length-append}
use Rattle.sums.specs.Sum.{delta}
use Rattle.sums.specs.Gather.{gather}
use Rattle.sums.proofs.SumLaws.{delta_refl, delta_diff, sum_cong}
use Rattle.sums.proofs.GatherLaws.{gather_length}
use Rattle.graph.specs.Graph.{◌is_in◌, Distinct, Edge, Walk, IsPath, PathsExactly, Acyclic}
use Rattle.graph.specs.Count.{walks, path_count}
use Rattle.graph.proofs.Lists.{in_left, in_right, in_either, append_distinct, gather_in, gather_of, gather_distinct}
use Rattle.graph.proofs.Lists.{when, when_in, when_of, when_distinct, each, each_in, each_of, each_distinct, each_length}
use Rattle.graph.proofs.Walks.{path_self_only, walk_reach, path_reach, cycle_of}
use Rattle.graph.proofs.Deep.{Deep, deep}
use Rattle.graph.proofs.Recurrence.{reach_path_count, path_count_reach}

-- ---- the listing's first part: i alone, where it is j

abbrev alone : ℕ → ℕ → List (List ℕ)
alone i j = when (ℕ_discrete i j) ((i ∷ []) ∷ [])

alone_of : (i j : ℕ) (x : List ℕ) → x is_in alone i j → (x ≡ i ∷ []) × (i ≡ j)
alone_of i j x m = let r = when_of (ℕ_discrete i j) ((i ∷ []) ∷ []) x m in (elim r.1 [ inl e ↦ e | inr q ↦ absurd q ], r.0)

alone_length : {A : Type 0} (x : A) (i j : ℕ) (d : Dec (i ≡ j)) → length (when d (x ∷ [])) ≡ delta i j
unfolding when
alone_length x i j (yes e) = rw (e, delta_refl j)
alone_length x i j (no d) = rw (delta_diff i j d)

-- a list where there is an edge is as long as the list once for each edge, if there is no more than one
edge_length : {A : Type 0} (c : ℕ) (l : List A) (d : Dec (0 < c)) → c ≤ 1 → length (when d l) ≡ c * length l
unfolding when
edge_length c l (yes p) h = let e : c ≡ 1 = omega arith in rw e (omega arith)
edge_length c l (no d) h = let e : c ≡ 0 = omega arith in rw e (sym (zero-mul (length l)))

module _ (n : ℕ) (w : ℕ → ℕ → ℕ) where
  -- ---- the walks from i to j of at most k vertices, i first, listed as `walks` counts them

  -- i before each of s, where an edge runs from i to b
  abbrev by : ℕ → ℕ → List (List ℕ) → List (List ℕ)
  by i b s = when (dec_lt 0 (w i b)) (each i s)

  unfoldable pub walk_list : ℕ → ℕ → ℕ → List (List ℕ)
  walk_list zero i j = []
  walk_list (suc k) i j = alone i j ++ gather n (λ b. by i b (walk_list k b j))

  -- those whose first edge leads to b
  abbrev next : ℕ → ℕ → ℕ → ℕ → List (List ℕ)
  next k i j b = by i b (walk_list k b j)

  walk_list_length : ((i j : ℕ) → i < n → j < n → w i j ≤ 1) → (k i j : ℕ) → i < n → length (walk_list k i j) ≡ walks n w k i j
  unfolding walk_list walks
  walk_list_length one zero i j h = refl
  walk_list_length one (suc k) i j h =
      length-append (alone i j) (gather n (next k i j))
      ∙ ap₂ (λ x y. x + y) (alone_length (i ∷ []) i j (ℕ_discrete i j))
      (gather_length n (next k i j)
      ∙ sum_cong n _ _ (λ b p. edge_length (w i b) (each i (walk_list k b j)) (dec_lt 0 (w i b)) (one i b h p)
      ∙ ap (λ x. w i b * x) (each_length i (walk_list k b j) ∙ walk_list_length one k b j p)))

  by_of : (i b : ℕ) (s : List (List ℕ)) (x : List ℕ) → x is_in by i b s → (y : List ℕ) × (x ≡ i ∷ y) × (y is_in s) × Edge n w i b
  by_of i b s x m =
      let r = when_of (dec_lt 0 (w i b)) (each i s) x m in
      let y = each_of i x s r.1 in
      (y.0, y.1, y.2, r.0)

  -- a list that is listed is a walk
  walk_list_of : (k i j : ℕ) (x : List ℕ) → x is_in walk_list k i j → (l : List ℕ) × (x ≡ i ∷ l) × Walk n w i l j
  unfolding walk_list
  walk_list_of zero i j x m = absurd m
  walk_list_of (suc k) i j x m =
      elim (in_either x (alone i j) (gather n (next k i j)) m) [
        | inl p ↦ let r = alone_of i j x p in ([], r.0, r.1)
        | inr p ↦
            let g = gather_of n (next k i j) x p in
            let y = by_of i g.0 (walk_list k g.0 j) x g.2 in
            let r = walk_list_of k g.0 j y.0 y.2 in
            (g.0 ∷ r.0, y.1 ∙ ap (λ t. i ∷ t) r.1, (g.1, y.3, r.2))
      ]

  -- a walk is listed
  walk_list_in : (k i : ℕ) (l : List ℕ) (j : ℕ) → Deep n w k i → Walk n w i l j → (i ∷ l) is_in walk_list k i j
  unfolding walk_list
  walk_list_in zero i l j d p = absurd d
  walk_list_in (suc k) i [] j d p = in_left (i ∷ []) (alone i j) (gather n (next k i j)) (when_in (ℕ_discrete i j) ((i ∷ []) ∷ []) (i ∷ []) p (inl refl))
  walk_list_in (suc k) i (b ∷ l) j d p =
      in_right (i ∷ b ∷ l) (alone i j) (gather n (next k i j))
      (gather_in n (next k i j) (i ∷ b ∷ l) b p.0
      (when_in (dec_lt 0 (w i b)) (each i (walk_list k b j)) (i ∷ b ∷ l) p.1
      (each_in i (b ∷ l) (walk_list k b j) (walk_list_in k b l j (d b p.0 p.1) p.2))))

  -- the second vertex of a walk whose first edge leads to b is b
  next_second : (k i j b : ℕ) (x : List ℕ) → x is_in next k i j b → (l : List ℕ) × (x ≡ i ∷ b ∷ l)
  next_second k i j b x m =
      let y = by_of i b (walk_list k b j) x m in
      let r = walk_list_of k b j y.0 y.2 in
      (r.0, y.1 ∙ ap (λ t. i ∷ t) r.1)

  -- no walk is listed twice: those of i alone have no second vertex, and the others differ in it or after it
  pub walk_list_distinct : (k i j : ℕ) → Distinct (walk_list k i j)
  unfolding walk_list
  walk_list_distinct zero i j = tt
  walk_list_distinct (suc k) i j =
      append_distinct (alone i j) (gather n (next k i j))
      (when_distinct (ℕ_discrete i j) ((i ∷ []) ∷ []) ((λ m. m), tt))
      (gather_distinct n (next k i j) (λ b p. when_distinct (dec_lt 0 (w i b)) (each i (walk_list k b j)) (each_distinct i (walk_list k b j) (walk_list_distinct k b j)))
      (λ b c x hb hc p q. cc ((next_second k i j b x p).1, (next_second k i j c x q).1)))
      (λ x p q.
      let g = gather_of n (next k i j) x q in
      let z : ◌≡◌ {A = ℕ} 0 1 = cc ((alone_of i j x p).0, (next_second k i j g.0 x g.2).1) in
      omega arith)

  -- ---- where there is no cycle, the walks are the paths

  -- a walk that came to a vertex twice would close a cycle
  pub walk_path : Acyclic n w → (i : ℕ) (l : List ℕ) (j : ℕ) → i < n → Walk n w i l j → IsPath n w i j (i ∷ l)
  walk_path a i l j h p = (refl, h, p, distinct i l h p)
    where
      distinct : (i : ℕ) (l : List ℕ) → i < n → Walk n w i l j → Distinct (i ∷ l)
      distinct i [] h p = ((λ m. m), tt)
      distinct i (b ∷ l) h p = (λ m. a (cycle_of n w i b h p.0 p.1 (walk_reach n w b l j i p.2 m)), distinct b l p.0 p.2)

  path_in : Acyclic n w → (i j : ℕ) (x : List ℕ) → IsPath n w i j x → x is_in walk_list n i j
  path_in a i j [] p = absurd p
  path_in a i j (s ∷ l) p = rw (← p.0) (walk_list_in n s l j (deep n w a s p.1) p.2)

  -- one can come from i to j exactly if the count is above 0
  pub path_iff_count : Acyclic n w → (i j : ℕ) → i < n → j < n → ((l : List ℕ) × IsPath n w i j l) ↔ (0 < path_count n w i j)
  path_iff_count a i j hi hj = (
    λ p. path_count_reach n w a i j hi hj (path_reach n w i j p.0 p.1),
    λ h. let r = reach_path_count n w i j h in (i ∷ r.0, walk_path a i r.0 j hi r.1),
  )

  -- from a vertex to itself there is one path
  pub exactly_self : (i : ℕ) → i < n → PathsExactly n w i i 1
  exactly_self i h = record {
    list = (i ∷ []) ∷ [];
    once = ((λ m. m), tt);
    all = λ x p. inl (path_self_only n w i x p);
    only = λ x m. elim m [ inl e ↦ rw e (refl, h, refl, ((λ m. m), tt)) | inr q ↦ absurd q ];
    many = refl;
  }

  -- the paths are the walks that are listed
  pub path_listed_iff : Acyclic n w → (i j : ℕ) → i < n → (x : List ℕ) → IsPath n w i j x ↔ (x is_in walk_list n i j)
  path_listed_iff a i j h x = (path_in a i j x, λ m. let r = walk_list_of n i j x m in rw r.1 (walk_path a i r.0 j h r.2))

  -- COUNTING: there are exactly `path_count i j` paths from i to j
  pub exact_path_count : Acyclic n w → ((i j : ℕ) → i < n → j < n → w i j ≤ 1) → (i j : ℕ) → i < n → PathsExactly n w i j (path_count n w i j)
  unfolding path_count
  exact_path_count a one i j h = record {
    list = walk_list n i j;
    once = walk_list_distinct n i j;
    all = λ x. (path_listed_iff a i j h x).0;
    only = λ x. (path_listed_iff a i j h x).1;
    many = walk_list_length one n i j h;
  }
