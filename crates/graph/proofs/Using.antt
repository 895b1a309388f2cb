-- Two graphs that differ in the edges a test names, which only the second has: it has more paths by those that go along a named edge.
-- Assumes nothing.
use mathlib.Core.Path.{◌≡◌}
use mathlib.Core.Logic.{◌↔◌, inl, inr}
use mathlib.Core.Bool.{Bool, true, false, Bool-discrete, not-eq-not}
use mathlib.Core.List.{List, [], ◌∷◌}
use Prim.Native.Nat.{ℕ, ◌+◌, ◌<◌}
use native.Mathlib.Omega.{arith}
use lib.ListN.{length}
use Rattle.graph.specs.Graph.{Edge, Walk, IsPath, PathsExactly, PathsWithExactly}
use Rattle.graph.specs.Uses.{Uses}
use Rattle.graph.proofs.Lists.{keep, exactly_only, exactly_cong, exactly_keep, exactly_either}
use Rattle.graph.proofs.Walks.{path_widen}

uses? : (f : ℕ → ℕ → Bool) (l : List ℕ) → Dec (Uses f l)
uses? f [] = no (λ u. u)
uses? f (x ∷ []) = no (λ u. u)
uses? f (x ∷ y ∷ l) =
    elim (Bool-discrete (f x y) true) [
      | yes q ↦ yes (inl q)
      | no d ↦ elim (uses? f (y ∷ l)) [ yes u ↦ yes (inr u) | no h ↦ no (λ u. elim u [ inl q ↦ d q | inr q ↦ h q ]) ]
    ]

module _ (n : ℕ) (w w' : ℕ → ℕ → ℕ) (f : ℕ → ℕ → Bool)
    (gone : (i j : ℕ) → i < n → j < n → f i j ≡ true → w i j ≡ 0)
    (kept : (i j : ℕ) → i < n → j < n → f i j ≡ false → w i j ≡ w' i j) where
  -- the first graph has no named edge
  edge_unnamed : (i j : ℕ) → i < n → j < n → Edge n w i j → ¬ (f i j ≡ true)
  edge_unnamed i j hi hj p q = omega (arith, gone i j hi hj q)

  edge_kept : (i j : ℕ) → i < n → j < n → Edge n w i j → Edge n w' i j
  edge_kept i j hi hj p = omega (arith, kept i j hi hj ((not-eq-not {b = false}).0 (edge_unnamed i j hi hj p)))

  walk_unnamed : (a : ℕ) (l : List ℕ) (j : ℕ) → a < n → Walk n w a l j → ¬ (Uses f (a ∷ l))
  walk_unnamed a [] j h p u = u
  walk_unnamed a (b ∷ l) j h p u = elim u [ inl q ↦ edge_unnamed a b h p.0 p.1 q | inr q ↦ walk_unnamed b l j p.0 p.2 q ]

  path_unnamed : (i j : ℕ) (l : List ℕ) → IsPath n w i j l → ¬ (Uses f l)
  path_unnamed i j [] p = absurd p
  path_unnamed i j (a ∷ l) p = walk_unnamed a l j p.1 p.2

  -- what goes along no named edge of the second graph goes in the first
  walk_back : (a : ℕ) (l : List ℕ) (j : ℕ) → a < n → Walk n w' a l j → ¬ (Uses f (a ∷ l)) → Walk n w a l j
  walk_back a [] j h p d = p
  walk_back a (b ∷ l) j h p d =
      (p.0, omega (arith, p.1, kept a b h p.0 ((not-eq-not {b = false}).0 (λ q. d (inl q)))), walk_back b l j p.0 p.2 (λ u. d (inr u)))

  path_back : (i j : ℕ) (l : List ℕ) → IsPath n w' i j l → ¬ (Uses f l) → IsPath n w i j l
  path_back i j [] p d = p
  path_back i j (a ∷ l) p d = (p.0, p.1, walk_back a l j p.1 p.2 d, p.3)

  -- the paths of the first graph are those of the second that go along no named edge
  pub path_unnamed_iff : (i j : ℕ) (l : List ℕ) → IsPath n w i j l ↔ (IsPath n w' i j l × (¬ (Uses f l)))
  path_unnamed_iff i j l = (λ p. (path_widen n w w' edge_kept i j l p, path_unnamed i j l p), λ p. path_back i j l p.0 p.1)

  -- a path of the second graph is one of the first or goes along a named edge, and never both
  pub paths_using : (i j k k' : ℕ) → PathsExactly n w i j k → PathsExactly n w' i j k'
      → (c : ℕ) × PathsWithExactly n w' i j (Uses f) c × (k' ≡ k + c)
  paths_using i j k k' p q =
      let u = exactly_keep (uses? f) q in (
        length (keep (uses? f) q.list),
        u,
        exactly_only q
            (exactly_cong
            (λ x c. elim c [ inl r ↦ path_widen n w w' edge_kept i j x r | inr r ↦ r.0 ])
            (λ x r. elim (uses? f x) [ yes y ↦ inr (r, y) | no d ↦ inl (path_back i j x r d) ])
            (exactly_either (λ x r s. path_unnamed i j x r s.1) p u)),
      )
