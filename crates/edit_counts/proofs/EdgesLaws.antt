-- The laws of edges whose arguments are in order, and of those that are not. Assumes nothing.
use Rattle.std.proofs.Common.{◌≡◌, ◌⊎◌, inl, inr, Bool, true, false, ℕ, ◌*◌, ◌%◌, ◌^◌, ◌≤◌, ◌<◌, [], ltb, refl, sym, ◌∙◌, arith}
use lib.Pow.{pow-lt}
use borrow.Author.Tests.{ltb-true, ltb-false}
use Rattle.word.proofs.MaskLaws.{one_shl}
use Rattle.answer.specs.Table.{Conditions, First}
use Rattle.sheet_theory.specs.Conditions.{StrayBit}
use Rattle.sheet_theory.proofs.StrayLaws.{stray_iff}
use Rattle.edit_theory.specs.Edit.{at}
use Rattle.edit_theory.specs.Table.{argued}

-- the mask of one vertex
pub one_fits : (n v : ℕ) → v < n → n ≤ 64 → (1 * 2 ^ v) % 2 ^ 64 < 2 ^ n
one_fits n v h l = rw (one_shl v (omega arith)) (pow-lt h)

-- ---- masks

module _ (n v a b : ℕ) (h : v < n) where
  abbrev arguments : Conditions
  arguments = argued n (at v a b) []

  there : ¬ (n ≤ v)
  there l = omega arith

  pub masks_predecessors : (t : Bool) → t ≡ ltb a (2 ^ n) → t ≡ false → First arguments 4
  masks_predecessors t et f = inr (there, inl (inl ((stray_iff n a).1 (ltb-false a (2 ^ n) (sym et ∙ f))), refl))

  pub masks_successors : (t : Bool) → t ≡ ltb b (2 ^ n) → t ≡ false → First arguments 4
  masks_successors t et f = inr (there, inl (inr ((stray_iff n b).1 (ltb-false b (2 ^ n) (sym et ∙ f))), refl))

  pub masks_good : (t u : Bool) → t ≡ ltb a (2 ^ n) → t ≡ true → u ≡ ltb b (2 ^ n) → u ≡ true → First arguments 0
  masks_good t u et p eu q = inr (there, inr (none, refl))
    where
      none : ¬ (StrayBit n a ⊎ StrayBit n b)
      none (inl c) = omega (arith, (stray_iff n a).0 c, ltb-true a (2 ^ n) (sym et ∙ p))
      none (inr c) = omega (arith, (stray_iff n b).0 c, ltb-true b (2 ^ n) (sym eu ∙ q))
