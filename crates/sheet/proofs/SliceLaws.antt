-- The laws of a part of a list, from the place a to the place b, of the front of one written, and of the rows of a sheet. Assumes nothing.
use Rattle.std.proofs.Common.{◌≡◌, ◌⊎◌, inl, inr, ℕ, ◌+◌, ◌-◌, ◌≤◌, ◌<◌, List, ◌++◌, length, get_or, take, drop, ap, ◌∙◌, length-drop, length-take-le, get_or-drop, get_or-take, arith}
use Rattle.std.proofs.lemmas.Grind.{common_steps}
use Rattle.sheet_theory.specs.Layout.{Shape}
use Rattle.sheet_theory.proofs.LayoutLaws.{rows_within}
use Rattle.sheet.specs.Fill.{over}
use Rattle.sheet.proofs.FillLaws.{puts_cong}

-- the rows of a sheet of n vertices are n
pub rows_taken : {n : ℕ} {s : List ℕ} → Shape n s → length (take n s) ≡ n
rows_taken {n} {s} h = length-take-le n s (rows_within h)

module _ (l : List ℕ) (a b : ℕ) (h : b ≤ length l) where
  pub part_long : a ≤ b → length (take (b - a) (drop a l)) ≡ b - a
  part_long q = let e = length-drop a l in length-take-le (b - a) _ (omega (arith, e))

  pub part_at : (j : ℕ) → a + j < b → get_or (take (b - a) (drop a l)) j 0 ≡ get_or l (a + j) 0
  part_at j q = get_or-take (b - a) _ j 0 (omega arith) ∙ get_or-drop a l j 0

-- a list with the k entries from the place a on replaced by those of ys
module _ (xs ys : List ℕ) (a k : ℕ) (h : a + k ≤ length xs) (e : length ys ≡ k) where
  abbrev replaced : List ℕ
  replaced = take a xs ++ (ys ++ drop k (drop a xs))

  pub replaced_long : length replaced ≡ length xs
  replaced_long = grind (arith, common_steps)

  pub replaced_in : (j : ℕ) → j < k → get_or replaced (a + j) 0 ≡ get_or ys j 0
  replaced_in j q = grind (arith, common_steps)

  pub replaced_out : (i : ℕ) → (i < a) ⊎ (a + k ≤ i) → get_or replaced i 0 ≡ get_or xs i 0
  replaced_out i (inl q) = grind (arith, common_steps)
  replaced_out i (inr q) = grind (arith, common_steps)

-- the first n words of t, written
pub over_taken : (l t u : List ℕ) (b n : ℕ) → n ≤ length t → u ≡ over l b (λ (j : ℕ). get_or (take n t) j 0) (length (take n t))
    → u ≡ over l b (λ (j : ℕ). get_or t j 0) n
over_taken l t u b n h e =
    e ∙ ap (over l b (λ (j : ℕ). get_or (take n t) j 0)) (length-take-le n t h) ∙ puts_cong l (λ j. b + j) _ _ n (λ j q. get_or-take n t j 0 q)
