-- The pigeonhole: a list of different numbers below n has at most n entries. And the numbers below n besides two of them. Assumes nothing.
use mathlib.Core.Path.{◌≡◌, refl, sym, ap}
use mathlib.Core.Logic.{◌⊎◌, inl, inr}
use mathlib.Core.List.{List, [], ◌∷◌}
use Prim.Native.Nat.{ℕ, zero, suc, ◌+◌, ◌≤◌, ◌<◌}
use native.Mathlib.Decide.{ℕ_discrete}
use native.Mathlib.Omega.{arith}
use lib.ListN.{length}
use Rattle.graph.specs.Graph.{◌is_in◌, Distinct}
use Rattle.graph.proofs.Lists.{distinct_le, without, without_length, without_in}

-- every entry of l is below n
abbrev pub Below : ℕ → List ℕ → Type 0
Below n l = (x : ℕ) → x is_in l → x < n

-- n - 1, .., 1, 0
below : ℕ → List ℕ
below zero = []
below (suc n) = n ∷ below n

below_length : (n : ℕ) → length (below n) ≡ n
unfolding below
below_length zero = refl
below_length (suc n) = ap suc (below_length n)

below_in : (n x : ℕ) → x < n → x is_in below n
unfolding below
below_in zero x h = omega arith
below_in (suc n) x h = elim (ℕ_discrete x n) [ yes e ↦ inl e | no d ↦ inr (below_in n x (omega arith)) ]

pub pigeonhole : (n : ℕ) (l : List ℕ) → Below n l → Distinct l → length l ≤ n
pigeonhole n l h d = omega (arith, below_length n, distinct_le l (below n) d (λ x m. below_in n x (h x m)))

-- the list has n - 2 entries, and each number below n is i, j or one of them
pub record Others (n i j : ℕ) : Type 0 where
  pub list : List ℕ
  pub many : length list + 2 ≡ n
  pub all : (x : ℕ) → x < n → (x ≡ i) ⊎ ((x ≡ j) ⊎ (x is_in list))

pub others : (n i j : ℕ) → i < n → j < n → (i ≡ j → ⊥) → Others n i j
others n i j hi hj d =
    let mi = below_in n i hi in
    let s = without i (below n) mi in
    let mj : j is_in s = elim (without_in i (below n) mi j (below_in n j hj)) [ inl e ↦ absurd (d (sym e)) | inr m ↦ m ] in
    record {
      list = without j s mj;
      many = omega (arith, below_length n, without_length i (below n) mi, without_length j s mj);
      all = λ x h. elim (without_in i (below n) mi x (below_in n x h)) [ inl e ↦ inl e | inr m ↦ inr (without_in j s mj x m) ];
    }
