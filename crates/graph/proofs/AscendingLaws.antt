-- The laws of ascending lists: put one after the other they ascend, no entry comes twice, and such a list is known by its entries.
-- Assumes nothing.
use mathlib.Core.Path.{◌≡◌, refl, sym, ap₂, ◌∙◌}
use mathlib.Core.Logic.{◌↔◌, inl, inr}
use mathlib.Core.List.{List, [], ◌∷◌, ◌++◌}
use Prim.Native.Nat.{ℕ, zero, suc, ◌<◌}
use native.Mathlib.Omega.{arith}
use Rattle.sums.specs.Gather.{gather}
use Rattle.graph.specs.Graph.{◌is_in◌, Distinct}
use Rattle.graph.specs.Ascending.{Ascending, EdgeLower}
use Rattle.graph.proofs.Lists.{in_either, gather_of}

-- ---- lists put one after the other

module _ {A : Type 0} (R : A → A → Type 0) where
  append_ascending : (s t : List A) → Ascending R s → Ascending R t → ((x y : A) → x is_in s → y is_in t → R x y) → Ascending R (s ++ t)
  append_ascending [] t a b h = b
  append_ascending (x ∷ s) t a b h = (
    λ y m. elim (in_either y s t m) [ inl p ↦ a.0 y p | inr p ↦ h x y (inl refl) p ],
    append_ascending s t a.1 b (λ z y p q. h z y (inr p) q),
  )

  pub gather_ascending : (n : ℕ) (f : ℕ → List A) → ((b : ℕ) → b < n → Ascending R (f b))
      → ((b c : ℕ) (x y : A) → b < c → x is_in f b → y is_in f c → R x y) → Ascending R (gather n f)
  unfolding gather
  gather_ascending zero f h g = tt
  gather_ascending (suc n) f h g =
      append_ascending (gather n f) (f n) (gather_ascending n f (λ b p. h b (omega arith)) g) (h n (omega arith))
      (λ x y p q. let r = gather_of n f x p in g r.0 n x y r.1 r.2 q)

-- ---- by an order in which no two entries come before each other

module _ {A : Type 0} (R : A → A → Type 0) (asym : (x y : A) → R x y → ¬ (R y x)) where
  irrefl : (x : A) → ¬ (R x x)
  irrefl x p = asym x x p p

  pub ascending_distinct : (l : List A) → Ascending R l → Distinct l
  ascending_distinct [] h = tt
  ascending_distinct (x ∷ l) h = (λ m. irrefl x (h.0 x m), ascending_distinct l h.1)

  -- ONE LIST: two that ascend and have the same entries are the same
  pub ascending_only : (l m : List A) → Ascending R l → Ascending R m → ((x : A) → (x is_in l) ↔ (x is_in m)) → l ≡ m
  ascending_only [] [] h k e = refl
  ascending_only [] (y ∷ m) h k e = absurd ((e y).1 (inl refl))
  ascending_only (x ∷ l) [] h k e = absurd ((e x).0 (inl refl))
  ascending_only (x ∷ l) (y ∷ m) h k e =
      let same : x ≡ y = elim ((e x).0 (inl refl)) [
        | inl q ↦ q
        | inr p ↦ elim ((e y).1 (inl refl)) [ inl q ↦ sym q | inr q ↦ absurd (asym x y (h.0 y q) (k.0 x p)) ]
      ] in
      ap₂ (λ (a : A) (t : List A). a ∷ t) same
      (ascending_only l m h.1 k.1
      (λ z. (
        λ p. elim ((e z).0 (inr p)) [ inl q ↦ absurd (irrefl x (rw (q ∙ sym same) at (h.0 z p))) | inr q ↦ q ],
        λ p. elim ((e z).1 (inr p)) [ inl q ↦ absurd (irrefl y (rw (q ∙ same) at (k.0 z p))) | inr q ↦ q ],
      )))

pub edge_asym : (x y : ℕ × ℕ) → EdgeLower x y → ¬ (EdgeLower y x)
edge_asym x y (inl p) (inl q) = omega arith
edge_asym x y (inl p) (inr q) = omega (arith, q.0)
edge_asym x y (inr p) (inl q) = omega (arith, p.0)
edge_asym x y (inr p) (inr q) = omega (arith, p.1, q.1)
