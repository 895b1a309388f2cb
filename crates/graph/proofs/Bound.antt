-- Where there is no cycle, at most 2 ^ (n - 2) paths lead from one vertex to another: a path is known by which of the other vertices it comes to.
-- So with up to 64 vertices, and at most one edge from a vertex to another, every count is below 2 ^ 64. Assumes nothing.
use mathlib.Core.Path.{◌≡◌, refl, sym, ap, ap₂, subst, ◌∙◌}
use mathlib.Core.Logic.{inl, inr}
use mathlib.Core.List.{List, [], ◌∷◌, ◌++◌}
use Prim.Native.Nat.{ℕ, ◌-◌, ◌^◌, ◌≤◌, ◌<◌}
use native.Mathlib.Nat.{pow-suc, pow-le-pow_right}
use native.Mathlib.Decide.{ℕ_discrete}
use native.Mathlib.Omega.{arith}
use lib.ListN.{length, length-append}
use Rattle.graph.specs.Count.{path_count}
use Rattle.graph.specs.Graph.{◌is_in◌, Distinct, Walk, IsPath, PathsExactly, Acyclic}
use Rattle.graph.proofs.Lists.{in?, in_left, in_right, in_either, when, when_in, when_of, each, each_in, each_length, images_le, exactly_only}
use Rattle.graph.proofs.Pigeon.{Others, others}
use Rattle.graph.proofs.Walks.{walk_below, walk_end, Reach, reach_trans, walk_reach, cycle_of}
use Rattle.graph.proofs.Counting.{exactly_self, exact_path_count}

-- ---- the entries of s that are in l, and all that this can be

among : List ℕ → List ℕ → List ℕ
among [] l = []
among (x ∷ s) l = when (in? x l) (x ∷ []) ++ among s l

among_in : (s l : List ℕ) (x : ℕ) → x is_in s → x is_in l → x is_in among s l
unfolding among
among_in [] l x p q = p
among_in (y ∷ s) l x (inl e) q = in_left x (when (in? y l) (y ∷ [])) (among s l) (when_in (in? y l) (y ∷ []) x (rw e at q) (inl e))
among_in (y ∷ s) l x (inr p) q = in_right x (when (in? y l) (y ∷ [])) (among s l) (among_in s l x p q)

among_of : (s l : List ℕ) (x : ℕ) → x is_in among s l → x is_in l
unfolding among
among_of [] l x m = absurd m
among_of (y ∷ s) l x m =
    elim (in_either x (when (in? y l) (y ∷ [])) (among s l) m) [
      | inl p ↦ let r = when_of (in? y l) (y ∷ []) x p in elim r.1 [ inl e ↦ rw e r.0 | inr q ↦ absurd q ]
      | inr p ↦ among_of s l x p
    ]

-- the lists that are left of s when any of its entries are taken away
sublists : List ℕ → List (List ℕ)
sublists [] = [] ∷ []
sublists (x ∷ s) = each x (sublists s) ++ sublists s

sublists_length : (s : List ℕ) → length (sublists s) ≡ 2 ^ length s
unfolding sublists
sublists_length [] = refl
sublists_length (x ∷ s) = length-append (each x (sublists s)) (sublists s) ∙ omega (arith, sublists_length s, each_length x (sublists s), pow-suc 2 (length s))

among_sublist : (s l : List ℕ) → among s l is_in sublists s
unfolding sublists among when
among_sublist [] l = inl refl
among_sublist (x ∷ s) l = put (in? x l) (among_sublist s l)
  where
    put : {P : Type 0} (d : Dec P) → among s l is_in sublists s → (when d (x ∷ []) ++ among s l) is_in (each x (sublists s) ++ sublists s)
    put (yes p) m = in_left (x ∷ among s l) (each x (sublists s)) (sublists s) (each_in x (among s l) (sublists s) m)
    put (no d) m = in_right (among s l) (each x (sublists s)) (sublists s) m

-- from a vertex to itself there is one path, also where there is a cycle
pub bound_self : (n : ℕ) (w : ℕ → ℕ → ℕ) (i k : ℕ) → i < n → PathsExactly n w i i k → k ≡ 1
bound_self n w i k h r = exactly_only r (exactly_self n w i h)

module _ (n : ℕ) (w : ℕ → ℕ → ℕ) (acyclic : Acyclic n w) where
  -- two vertices from each of which one comes to the other are the same
  reach_antisym : (b c : ℕ) → b < n → Reach n w b c → Reach n w c b → b ≡ c
  reach_antisym b c h p q = go p.0 p.1
    where
      go : (l : List ℕ) → Walk n w b l c → b ≡ c
      go [] e = e
      go (s ∷ l) r = absurd (acyclic (cycle_of n w b s h r.0 r.1 (reach_trans n w (l, r.2) q)))

  -- two walks that come to the same vertices are the same: from the next vertex of each one comes to the next of the other, so these are one
  walk_only : (i : ℕ) (l m : List ℕ) (j : ℕ) → Walk n w i l j → Walk n w i m j → Distinct l → Distinct m
      → ((x : ℕ) → x is_in l → x is_in m) → ((x : ℕ) → x is_in m → x is_in l) → l ≡ m
  walk_only i [] [] j p q d e f g = refl
  walk_only i [] (c ∷ m) j p q d e f g = absurd (g c (inl refl))
  walk_only i (b ∷ l) [] j p q d e f g = absurd (f b (inl refl))
  walk_only i (b ∷ l) (c ∷ m) j p q d e f g =
      let s : b ≡ c = reach_antisym b c p.0 (walk_reach n w b l j c p.2 (g c (inl refl))) (walk_reach n w c m j b q.2 (f b (inl refl))) in
      ap₂ (λ x y. x ∷ y) s
      (walk_only b l m j p.2 (rw (← s) at q.2) d.1 e.1
      (λ x r. elim (f x (inr r)) [ inl t ↦ absurd (d.0 (rw (t ∙ sym s) at r)) | inr t ↦ t ])
      (λ x r. elim (g x (inr r)) [ inl t ↦ absurd (e.0 (rw (t ∙ s) at r)) | inr t ↦ t ]))

  module _ (i j : ℕ) (o : Others n i j) where
    -- if two paths from i to j come to the same of the other vertices, what comes after i in the one, be it j or another, comes after i in the other
    path_within : (l m : List ℕ) → Walk n w i l j → Walk n w i m j → Distinct (i ∷ l)
        → among o.list (i ∷ l) ≡ among o.list (i ∷ m) → (x : ℕ) → x is_in l → x is_in m
    path_within l m p q d e x r =
        elim (o.all x (walk_below n w i l j p x r)) [
          | inl t ↦ absurd (d.0 (rw t at r))
          | inr t ↦ later (elim t [
            | inl u ↦ subst (λ (y : ℕ). y is_in (i ∷ m)) (sym u) (walk_end n w i m j q)
            | inr u ↦ among_of o.list (i ∷ m) x (rw e at (among_in o.list (i ∷ l) x u (inr r)))
          ])
        ]
      where
        later : x is_in (i ∷ m) → x is_in m
        later (inl t) = absurd (d.0 (rw t at r))
        later (inr t) = t

    path_only : (x y : List ℕ) → IsPath n w i j x → IsPath n w i j y → among o.list x ≡ among o.list y → x ≡ y
    path_only [] y p q e = absurd p
    path_only (a ∷ l) [] p q e = absurd q
    path_only (a ∷ l) (c ∷ m) (s, _, p, d) (t, _, q, f) e =
        let p' : Walk n w i l j = rw s at p in
        let q' : Walk n w i m j = rw t at q in
        let e' : among o.list (i ∷ l) ≡ among o.list (i ∷ m) = rw (s, t) at e in
        ap₂ (λ x y. x ∷ y) (s ∙ sym t)
        (walk_only i l m j p' q' d.1 f.1 (path_within l m p' q' (rw s at d) e') (path_within m l q' p' (rw t at f) (sym e')))

  -- THE BOUND: the sets of other vertices that a path can come to number 2 ^ (n - 2), and no two paths come to the same ones
  pub bound : (i j k : ℕ) → i < n → j < n → (i ≡ j → ⊥) → PathsExactly n w i j k → k ≤ 2 ^ (n - 2)
  bound i j k hi hj d r =
      let o = others n i j hi hj d in
      let e : length o.list ≡ n - 2 = omega (arith, o.many) in
      omega (
        arith,
        ap (λ x. 2 ^ x) e,
        r.many,
        sublists_length o.list,
        images_le (among o.list) r.list (sublists o.list) r.once (λ x m. among_sublist o.list x)
            (λ x y p q s. path_only i j o x y (r.only x p) (r.only y q) s),
      )

  -- with up to 64 vertices there are fewer than 2 ^ 64 paths: 1, or at most 2 ^ 62
  pub paths_below : n ≤ 64 → (i j k : ℕ) → i < n → j < n → PathsExactly n w i j k → k < 2 ^ 64
  paths_below hn i j k hi hj r =
      elim (ℕ_discrete i j) [
        | yes e ↦ omega (arith, bound_self n w i k hi (rw (← e) at r))
        | no d ↦ let h : n - 2 ≤ 62 = omega arith in omega (arith, bound i j k hi hj d r, pow-le-pow_right {n = 2} (omega arith) h)
      ]

  -- so what `path_count` says of single edges fits a word
  pub path_count_below : n ≤ 64 → ((i j : ℕ) → i < n → j < n → w i j ≤ 1) → (i j : ℕ) → i < n → j < n → path_count n w i j < 2 ^ 64
  path_count_below hn one i j hi hj = paths_below hn i j _ hi hj (exact_path_count n w acyclic one i j hi)
