-- The order of paths: the first place where they differ decides, and it is a strict total order on the paths between two vertices.
-- Assumes nothing.
use mathlib.Core.Path.{◌≡◌, refl, sym, subst, ap₂, ◌∙◌}
use mathlib.Core.Logic.{◌⊎◌, inl, inr, ◌↔◌}
use mathlib.Core.List.{List, [], ◌∷◌}
use Prim.Native.Nat.{ℕ, zero, suc, ◌<◌}
use native.Mathlib.Decide.{ℕ_discrete, dec_lt}
use native.Mathlib.Omega.{arith}
use lib.ListN.{get_or}
use Rattle.graph.specs.Graph.{◌is_in◌, Distinct, Walk, IsPath}
use Rattle.graph.proofs.Walks.{walk_end}
use Rattle.query_theory.specs.Before.{Before, LowerAt}

-- ---- what the order says

lower_here : (l m : List ℕ) → Before l m → (t : ℕ) × LowerAt l m t
lower_here [] m h = absurd h
lower_here (x ∷ l) [] h = absurd h
lower_here (x ∷ l) (y ∷ m) h =
    elim h [
      | inl p ↦ (0, (omega arith, omega arith, (λ r q. absurd (omega arith)), p))
      | inr p ↦ let t = lower_here l m p.1 in (suc t.0, (omega (arith, t.1.0), omega (arith, t.1.1), same x y l m p.0 t.0 t.1.2, t.1.3))
    ]
  where
    same : (x y : ℕ) (l m : List ℕ) → x ≡ y → (t : ℕ) → ((r : ℕ) → r < t → get_or l r 0 ≡ get_or m r 0) → (r : ℕ) → r < suc t → get_or (x ∷ l) r 0 ≡ get_or (y ∷ m) r 0
    same x y l m e t h zero q = e
    same x y l m e t h (suc r) q = h r (omega arith)

lower_before : (l m : List ℕ) (t : ℕ) → LowerAt l m t → Before l m
lower_before [] m t h = absurd (omega (arith, h.0))
lower_before (x ∷ l) [] t h = absurd (omega (arith, h.1))
lower_before (x ∷ l) (y ∷ m) zero h = inl h.3
lower_before (x ∷ l) (y ∷ m) (suc t) h =
    inr (h.2 0 (omega arith), lower_before l m t (omega (arith, h.0), omega (arith, h.1), (λ r q. h.2 (suc r) (omega arith)), h.3))

-- the first place where they differ decides
pub before_first : (l m : List ℕ) → Before l m ↔ ((t : ℕ) × LowerAt l m t)
before_first l m = (lower_here l m, λ p. lower_before l m p.0 p.1)

-- ---- it is a strict total order

pub before_irrefl : (l : List ℕ) → ¬ (Before l l)
before_irrefl [] h = h
before_irrefl (x ∷ l) h = elim h [ inl p ↦ omega arith | inr p ↦ before_irrefl l p.1 ]

pub before_trans : (l m p : List ℕ) → Before l m → Before m p → Before l p
before_trans [] m p h g = absurd h
before_trans (x ∷ l) [] p h g = absurd h
before_trans (x ∷ l) (y ∷ m) [] h g = absurd g
before_trans (x ∷ l) (y ∷ m) (z ∷ p) h g =
    elim h [
      | inl a ↦ elim g [ inl b ↦ inl (omega arith) | inr b ↦ inl (omega (arith, b.0)) ]
      | inr a ↦ elim g [ inl b ↦ inl (omega (arith, a.0)) | inr b ↦ inr (a.0 ∙ b.0, before_trans l m p a.1 b.1) ]
    ]

module _ (n : ℕ) (w : ℕ → ℕ → ℕ) where
  -- of two walks with the same ends neither stops where the other goes on: that one would come to their end twice
  walk_total : (i : ℕ) (l m : List ℕ) (j : ℕ) → Walk n w i l j → Walk n w i m j → Distinct (i ∷ l) → Distinct (i ∷ m) → (l ≡ m) ⊎ (Before l m ⊎ Before m l)
  walk_total i [] [] j p q d e = inl refl
  walk_total i [] (c ∷ m) j p q d e = absurd (e.0 (subst (λ (x : ℕ). x is_in (c ∷ m)) (sym p) (walk_end n w c m j q.2)))
  walk_total i (b ∷ l) [] j p q d e = absurd (d.0 (subst (λ (x : ℕ). x is_in (b ∷ l)) (sym q) (walk_end n w b l j p.2)))
  walk_total i (b ∷ l) (c ∷ m) j p q d e =
      elim (ℕ_discrete b c) [
        | yes s ↦ elim (walk_total b l m j p.2 (rw s q.2) d.1 (rw s e.1)) [
          | inl t ↦ inl (ap₂ (λ x y. x ∷ y) s t)
          | inr t ↦ inr (elim t [ inl u ↦ inl (inr (s, u)) | inr u ↦ inr (inr (sym s, u)) ])
        ]
        | no t ↦ elim (dec_lt b c) [ yes u ↦ inr (inl (inl u)) | no u ↦ inr (inr (inl (omega arith))) ]
      ]

  -- two paths with the same ends are the same, or one is before the other
  pub before_total : (i j : ℕ) (l m : List ℕ) → IsPath n w i j l → IsPath n w i j m → (l ≡ m) ⊎ (Before l m ⊎ Before m l)
  before_total i j [] m p q = absurd p
  before_total i j (a ∷ l) [] p q = absurd q
  before_total i j (a ∷ l) (c ∷ m) p q =
      let s : c ≡ a = q.0 ∙ sym p.0 in
      elim (walk_total a l m j p.2 (rw s at q.2) p.3 (rw s at q.3)) [
        | inl t ↦ inl (ap₂ (λ x y. x ∷ y) (sym s) t)
        | inr t ↦ inr (elim t [ inl u ↦ inl (inr (sym s, u)) | inr u ↦ inr (inr (s, u)) ])
      ]
