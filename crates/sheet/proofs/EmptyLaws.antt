-- That clearing every word and then setting the counts from a vertex to itself makes the empty sheet. Assumes nothing.
use mathlib.Core.Path.{◌≡◌, sym, ap, ◌∙◌}
use mathlib.Core.List.{List}
use Prim.Native.Nat.{ℕ, ◌+◌, ◌*◌, ◌<◌}
use native.Mathlib.Decide.{ℕ_discrete}
use native.Mathlib.Omega.{arith}
use lib.ListN.{length, get_or, replicate, length-replicate, get_or-replicate}
use Rattle.sums.specs.Sum.{delta}
use Rattle.sums.proofs.SumLaws.{delta_refl, delta_diff}
use Rattle.sheet_theory.specs.Layout.{size, count_at, empty_sheet}
use Rattle.sheet.specs.Fill.{puts}
use Rattle.sheet.specs.Internal.{diagonal_at}
use Rattle.sheet.proofs.FillLaws.{length_puts, puts_in, puts_out}
use Rattle.sheet_theory.proofs.LayoutLaws.{counts_within, row_counts, from_within, place_only, redone_ext}

module _ (n : ℕ) (w t : List ℕ) (ew : w ≡ replicate (size n) 0) (et : t ≡ puts w (diagonal_at n) (λ (k : ℕ). 1) n) where
  -- a place that is on no diagonal
  off : (k : ℕ) → ((i : ℕ) → i < n → k ≡ diagonal_at n i → ⊥) → get_or t k 0 ≡ get_or (replicate (size n) 0) k 0
  off k d = ap (λ (l : List ℕ). get_or l k 0) et ∙ puts_out w (diagonal_at n) (λ i. 1) n k d ∙ ap (λ (l : List ℕ). get_or l k 0) ew

  count : (i j : ℕ) → i < n → j < n → count_at n t i j ≡ delta i j
  count i j hi hj =
      elim (ℕ_discrete i j) [
        | yes e ↦
            rw (← e, delta_refl i)
            (ap (λ (l : List ℕ). get_or l (diagonal_at n i) 0) et
            ∙ puts_in w (diagonal_at n) (λ k. 1) n i hi (omega (arith, ap length ew, length-replicate {A = ℕ} (size n) 0, from_within n i hi)) (λ k r l q. omega (arith, (place_only n i i k k hi r q).0)))
        | no ne ↦
            rw (delta_diff i j ne)
            (off (n + i * n + j) (λ k r q. let p = place_only n i j k k hj r q in ne (p.0 ∙ sym p.1)) ∙ get_or-replicate {A = ℕ} (size n) _ 0 0 (omega (arith, from_within n i hi)))
      ]

  pub empty_filled : t ≡ empty_sheet n
  unfolding empty_sheet
  empty_filled =
      redone_ext n (λ i. 0) delta (replicate (size n) 0) t (ap length et ∙ length_puts w (diagonal_at n) (λ k. 1) n ∙ ap length ew)
      (λ i q. off i (λ j r e. omega arith) ∙ get_or-replicate {A = ℕ} (size n) i 0 0 (omega (arith, counts_within n))) count
      (λ k q. off k (λ i r e. omega (arith, row_counts n i r)))
