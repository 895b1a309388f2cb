-- Walks, and with them paths and cycles: put together, from end to end, and in a graph with more edges. Assumes nothing.
use mathlib.Core.Path.{◌≡◌, refl, sym, subst}
use mathlib.Core.Logic.{inl, inr}
use mathlib.Core.List.{List, [], ◌∷◌, ◌++◌}
use Prim.Native.Nat.{ℕ, ◌≤◌, ◌<◌}
use native.Mathlib.Omega.{arith}
use lib.ListN.{length}
use Rattle.graph.specs.Graph.{◌is_in◌, Edge, Walk, IsPath, PathsExactly, Cycle, Acyclic}
use Rattle.graph.proofs.Lists.{exactly_cong}
use Rattle.graph.proofs.Pigeon.{Below, pigeonhole}

module _ (n : ℕ) (w : ℕ → ℕ → ℕ) where
  pub edgeless_acyclic : ((i j : ℕ) → i < n → j < n → w i j ≡ 0) → Acyclic n w
  edgeless_acyclic h q = omega (arith, h q.at q.next q.bounded q.back.0, q.back.1)

  pub walk_append : (i : ℕ) (l : List ℕ) (j : ℕ) (m : List ℕ) (k : ℕ) → Walk n w i l j → Walk n w j m k → Walk n w i (l ++ m) k
  walk_append i [] j m k e q = rw e q
  walk_append i (b ∷ l) j m k p q = (p.0, p.1, walk_append b l j m k p.2 q)

  pub walk_below : (i : ℕ) (l : List ℕ) (j : ℕ) → Walk n w i l j → Below n l
  walk_below i [] j p x m = absurd m
  walk_below i (b ∷ l) j p x m = elim m [ inl e ↦ rw e p.0 | inr q ↦ walk_below b l j p.2 x q ]

  pub walk_end : (i : ℕ) (l : List ℕ) (j : ℕ) → Walk n w i l j → j is_in (i ∷ l)
  walk_end i [] j e = inl (sym e)
  walk_end i (b ∷ l) j p = inr (walk_end b l j p.2)

  -- where every edge rises, a walk does not fall, and there is no cycle
  module _ (h : ℕ → ℕ) (rises : (i j : ℕ) → i < n → j < n → Edge n w i j → h i < h j) where
    walk_rises : (i : ℕ) (l : List ℕ) (j : ℕ) → i < n → Walk n w i l j → h i ≤ h j
    walk_rises i [] j hi e = rw e (omega arith)
    walk_rises i (b ∷ l) j hi p = omega (arith, rises i b hi p.0 p.1, walk_rises b l j p.0 p.2)

    pub rising_acyclic : Acyclic n w
    rising_acyclic q =
        let p = q.back in omega (arith, rises q.at q.next q.bounded p.0 p.1, walk_rises q.next q.rest q.at p.0 p.2)

  -- a path has at most n vertices
  pub path_length_le : (i j : ℕ) (l : List ℕ) → IsPath n w i j l → length l ≤ n
  path_length_le i j [] p = absurd p
  path_length_le i j (a ∷ l) p = pigeonhole n (a ∷ l) (λ x m. elim m [ inl e ↦ rw e p.1 | inr q ↦ walk_below a l j p.2 x q ]) p.3

  -- a path from i to i is i alone: with an edge it would come to i twice
  pub path_self_only : (i : ℕ) (l : List ℕ) → IsPath n w i i l → l ≡ i ∷ []
  path_self_only i [] p = absurd p
  path_self_only i (a ∷ []) p = rw p.0
  path_self_only i (a ∷ b ∷ l) p = absurd (p.3.0 (subst (λ (x : ℕ). x is_in (b ∷ l)) (sym p.0) (walk_end b l i p.2.2)))

  -- ---- where one can come to

  -- edges, none or more, lead from i to j
  abbrev pub Reach : ℕ → ℕ → Type 0
  Reach i j = (l : List ℕ) × Walk n w i l j

  pub reach_refl : (i : ℕ) → Reach i i
  reach_refl i = ([], refl)

  pub reach_step : {i b j : ℕ} → b < n → Edge n w i b → Reach b j → Reach i j
  reach_step {i} {b} h p q = (b ∷ q.0, (h, p, q.1))

  pub reach_trans : {i j k : ℕ} → Reach i j → Reach j k → Reach i k
  reach_trans {i} {j} {k} p q = (p.0 ++ q.0, walk_append i p.0 j q.0 k p.1 q.1)

  -- one can come to each vertex of a walk
  pub walk_reach : (i : ℕ) (l : List ℕ) (j x : ℕ) → Walk n w i l j → x is_in (i ∷ l) → Reach i x
  walk_reach i [] j x p m = elim m [ inl e ↦ rw e (reach_refl i) | inr q ↦ absurd q ]
  walk_reach i (b ∷ l) j x p m = elim m [ inl e ↦ rw e (reach_refl i) | inr q ↦ reach_step p.0 p.1 (walk_reach b l j x p.2 q) ]

  pub path_reach : (i j : ℕ) (l : List ℕ) → IsPath n w i j l → Reach i j
  path_reach i j [] p = absurd p
  path_reach i j (a ∷ l) p = (l, rw p.0 at p.2)

  -- an edge from s whose end leads back to s closes a cycle
  pub cycle_of : (s b : ℕ) → s < n → b < n → Edge n w s b → Reach b s → Cycle n w
  cycle_of s b hs hb p q = record { at = s; next = b; rest = q.0; bounded = hs; back = (hb, p, q.1) }

-- ---- another graph on the same vertices that has an edge wherever the first has one

module _ (n : ℕ) (w w' : ℕ → ℕ → ℕ) (more : (i j : ℕ) → i < n → j < n → Edge n w i j → Edge n w' i j) where
  pub walk_widen : (i : ℕ) (l : List ℕ) (j : ℕ) → i < n → Walk n w i l j → Walk n w' i l j
  walk_widen i [] j h e = e
  walk_widen i (b ∷ l) j h p = (p.0, more i b h p.0 p.1, walk_widen b l j p.0 p.2)

  pub path_widen : (i j : ℕ) (l : List ℕ) → IsPath n w i j l → IsPath n w' i j l
  path_widen i j [] p = p
  path_widen i j (a ∷ l) p = (p.0, p.1, walk_widen a l j p.1 p.2, p.3)

  pub cycle_widen : Cycle n w → Cycle n w'
  cycle_widen q = record {
    at = q.at;
    next = q.next;
    rest = q.rest;
    bounded = q.bounded;
    back = walk_widen q.at (q.next ∷ q.rest) q.at q.bounded q.back;
  }

-- ---- another table that agrees with the first on the vertices

module _ (n : ℕ) (w w' : ℕ → ℕ → ℕ) (same : (i j : ℕ) → i < n → j < n → w i j ≡ w' i j) where
  same_edge : (i j : ℕ) → i < n → j < n → Edge n w i j → Edge n w' i j
  same_edge i j hi hj p = omega (arith, same i j hi hj)

  pub path_cong : (i j : ℕ) (l : List ℕ) → IsPath n w i j l → IsPath n w' i j l
  path_cong = path_widen n w w' same_edge

  pub cycle_cong : Cycle n w → Cycle n w'
  cycle_cong = cycle_widen n w w' same_edge

-- tables that agree on the vertices have the same number of paths
pub paths_cong : (n : ℕ) (w w' : ℕ → ℕ → ℕ) → ((i j : ℕ) → i < n → j < n → w i j ≡ w' i j)
    → (i j k : ℕ) → PathsExactly n w i j k → PathsExactly n w' i j k
paths_cong n w w' h i j k = exactly_cong (path_cong n w w' h i j) (path_cong n w' w (λ x y hx hy. sym (h x y hx hy)) i j)
