-- The definitions that go along a list, by the places of the list: an entry that is no vertex, two neighbours without an edge, the last
-- entry, and the counts passed over. Assumes nothing.
use mathlib.Core.Path.{◌≡◌, refl, sym, ap, ◌∙◌}
use mathlib.Core.Logic.{inl, inr, ◌↔◌}
use mathlib.Core.List.{List, [], ◌∷◌}
use Prim.Native.Nat.{ℕ, zero, suc, ◌+◌, ◌-◌, ◌*◌, ◌≤◌, ◌<◌}
use native.Mathlib.Omega.{arith}
use lib.ListN.{length, get_or}
use Rattle.sums.specs.Sum.{sum}
use Rattle.sums.proofs.SumLaws.{sum_first}
use Rattle.graph.specs.Graph.{◌is_in◌}
use Rattle.sheet_theory.specs.Layout.{edge_at}
use Rattle.query_theory.specs.PassedOver.{passed, passed_over, end}
use Rattle.query_theory.specs.Rank.{SomeNoVertex, Gap}

-- ---- entries

in_place : (x : ℕ) (p : List ℕ) → x is_in p → (t : ℕ) × (t < length p) × (get_or p t 0 ≡ x)
in_place x [] m = absurd m
in_place x (y ∷ p) m = elim m [ inl e ↦ (0, omega arith, sym e) | inr q ↦ let r = in_place x p q in (suc r.0, omega (arith, r.1), r.2) ]

place_in : (p : List ℕ) (t : ℕ) → t < length p → get_or p t 0 is_in p
place_in [] t h = absurd (omega arith)
place_in (y ∷ p) zero h = inl refl
place_in (y ∷ p) (suc t) h = inr (place_in p t (omega arith))

-- some entry is n or more
pub some_no_vertex_places : (n : ℕ) (p : List ℕ) → SomeNoVertex n p ↔ ((x : ℕ) × (x < length p) × (n ≤ get_or p x 0))
some_no_vertex_places n p = (
  λ c. let r = in_place c.0 p c.1 in (r.0, r.1, rw r.2 c.2),
  λ c. (get_or p c.0 0, place_in p c.0 c.1, c.2),
)

-- no edge runs from some entry to the next
pub gap_places : (s p : List ℕ) → Gap s p ↔ ((x : ℕ) × (suc x < length p) × (edge_at s (get_or p x 0) (get_or p (suc x) 0) ≡ 0))
gap_places s p = (there p, λ c. back p c.0 c.1 c.2)
  where
    there : (p : List ℕ) → Gap s p → (x : ℕ) × (suc x < length p) × (edge_at s (get_or p x 0) (get_or p (suc x) 0) ≡ 0)
    there [] g = absurd g
    there (a ∷ []) g = absurd g
    there (a ∷ b ∷ p) g = elim g [ inl z ↦ (0, omega arith, z) | inr q ↦ let r = there (b ∷ p) q in (suc r.0, omega (arith, r.1), r.2) ]

    back : (p : List ℕ) (x : ℕ) → suc x < length p → edge_at s (get_or p x 0) (get_or p (suc x) 0) ≡ 0 → Gap s p
    back [] x h z = absurd (omega arith)
    back (a ∷ []) x h z = absurd (omega arith)
    back (a ∷ b ∷ p) zero h z = inl z
    back (a ∷ b ∷ p) (suc x) h z = inr (back (b ∷ p) x (omega arith) z)

-- ---- the end

end_cons : (a : ℕ) (l : List ℕ) → end (a ∷ l) ≡ get_or (a ∷ l) (length l) 0
unfolding end
end_cons a [] = refl
end_cons a (b ∷ l) = end_cons b l

less_one : (a : ℕ) (l : List ℕ) → length (a ∷ l) - 1 ≡ length l
less_one a l = omega arith

pub end_places : (p : List ℕ) → end p ≡ get_or p (length p - 1) 0
unfolding end
end_places [] = refl
end_places (a ∷ l) = end_cons a l ∙ ap (λ x. get_or (a ∷ l) x 0) (sym (less_one a l))

-- ---- the counts passed over

module _ (w C : ℕ → ℕ → ℕ) (j : ℕ) where
  -- from the entry at the place x to the next
  abbrev step : List ℕ → ℕ → ℕ
  step p x = sum (get_or p (suc x) 0) (λ b. w (get_or p x 0) b * C b j)

  over_cons : (a : ℕ) (l : List ℕ) → passed_over w C j (a ∷ l) ≡ sum (length l) (step (a ∷ l))
  unfolding passed_over passed sum
  over_cons a [] = refl
  over_cons a (b ∷ l) = ap (λ x. step (a ∷ b ∷ l) 0 + x) (over_cons b l) ∙ sym (sum_first (length l) (step (a ∷ b ∷ l)))

  pub passed_over_places : (p : List ℕ) → passed_over w C j p ≡ sum (length p - 1) (λ x. sum (get_or p (suc x) 0) (λ b. w (get_or p x 0) b * C b j))
  unfolding passed_over sum
  passed_over_places [] = refl
  passed_over_places (a ∷ l) = over_cons a l ∙ ap (λ m. sum m (step (a ∷ l))) (sym (less_one a l))
