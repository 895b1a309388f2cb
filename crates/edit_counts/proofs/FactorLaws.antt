-- The laws of the factors by which an edit changes the counts: what they are, and what a count becomes by the products with them.
-- Assumes nothing.
use mathlib.Core.Path.{◌≡◌, refl, ap, ◌∙◌}
use mathlib.Core.Bool.{Bool, true, false}
use mathlib.Core.List.{List}
use Prim.Native.Nat.{ℕ, ◌+◌, ◌*◌, ◌%◌, ◌^◌}
use native.Mathlib.Nat.{mod-mod, mod-add-mod, mod-lt, add-zero, mul-add, add-mul, mul-zero, zero-mul}
use native.Mathlib.Omega.{arith}
use lib.ListN.{get_or}
use lib.Pow.{pow_pos}
use Rattle.sums.specs.Modulo.{Congruent}
use Rattle.sums.proofs.SumLaws.{sum_all_zero}
use Rattle.sums.proofs.ModuloLaws.{congruent_add, congruent_mul, congruent_product}
use Rattle.word.specs.Wrap.{minus}
use Rattle.word.proofs.BitLaws.{bit_zero}
use Rattle.word.proofs.WrapLaws.{minus_add, minus_congruent}
use Rattle.edit_theory.specs.Outcome.{edited_by}
use Rattle.edit_counts.specs.Internal.{to_factor, from_factor, sum_at}

-- ---- the factors

module _ (inserts : Bool) where
  pub to_insert : (x f : ℕ) → inserts ≡ true → x ≡ to_factor inserts x f
  unfolding to_factor
  to_insert x f e = rw e

  pub to_delete : (x f r : ℕ) → inserts ≡ false → r ≡ minus f x → r ≡ to_factor inserts x f
  unfolding to_factor
  to_delete x f r e q = rw e q

  pub from_insert : (t y r : ℕ) → inserts ≡ true → r ≡ (t + y) % 2 ^ 64 → r ≡ from_factor inserts t y
  unfolding from_factor
  from_insert t y r e q = rw e q

  pub from_delete : (t y r : ℕ) → inserts ≡ false → r ≡ minus 0 y → r ≡ from_factor inserts t y
  unfolding from_factor
  from_delete t y r e q = rw e q

-- ---- a count by its factors

-- p with r makes k, and q with z makes 0
made : (m c p q r z k : ℕ) → Congruent m (p + r) k → Congruent m (q + z) 0 → Congruent m ((c + p + q) % m + (r + z)) (c + k)
made m c p q r z k e o =
    mod-add-mod (c + p + q) m (r + z)
    ∙ ap (λ y. y % m) (omega arith)
    ∙ congruent_add m (c + (p + r)) (q + z) (c + k) 0 (congruent_add m c (p + r) c k refl e) o
    ∙ ap (λ y. y % m) (add-zero (c + k))

minus_cong : (a b c d : ℕ) → Congruent (2 ^ 64) a c → Congruent (2 ^ 64) b d → minus a b ≡ minus c d
unfolding minus
minus_cong a b c d e o = omega arith

module _ (c x y F T : ℕ) where
  -- THE NUMBERS: a count c with T and F times their factors added is the count after the edit. For a deletion the factor of T with x
  -- makes F, and that of F with y makes 0.
  pub edited_by_lem : (inserts : Bool)
      → (c + to_factor inserts x (F % 2 ^ 64) * T + F % 2 ^ 64 * from_factor inserts T y) % 2 ^ 64 ≡ edited_by inserts c x y F T
  unfolding edited_by to_factor from_factor
  edited_by_lem true =
      let q : Congruent (2 ^ 64) (F % 2 ^ 64 * ((T + y) % 2 ^ 64)) (F * (T + y))
      = congruent_product (2 ^ 64) (F % 2 ^ 64) ((T + y) % 2 ^ 64) F (T + y) (mod-mod F (2 ^ 64)) (mod-mod (T + y) (2 ^ 64)) in
      omega (arith, mul-add F T y)
  edited_by_lem false =
      let z = minus (F % 2 ^ 64) x in
      let w = minus 0 y in
      let p : Congruent (2 ^ 64) (z * T + x * T) (F * T)
      = rw (← (add-mul z x T)) (congruent_product (2 ^ 64) (z + x) T F T (minus_add (F % 2 ^ 64) x ∙ mod-mod F (2 ^ 64)) refl) in
      let q : Congruent (2 ^ 64) (F * w + F * y) 0
      = rw (← (mul-add F w y)) (congruent_mul (2 ^ 64) F (w + y) 0 (minus_add 0 y) ∙ ap (λ a. a % 2 ^ 64) (mul-zero F)) in
      let r : Congruent (2 ^ 64) (F % 2 ^ 64 * w) (F * w) = congruent_product (2 ^ 64) (F % 2 ^ 64) w F w (mod-mod F (2 ^ 64)) refl in
      minus_congruent _ (c + F * T) (x * T + F * y) (mod-lt _ (pow_pos 64))
      (made (2 ^ 64) c (z * T) (F % 2 ^ 64 * w) (x * T) (F * y) (F * T) p (congruent_add (2 ^ 64) (F % 2 ^ 64 * w) (F * y) (F * w) (F * y) r refl ∙ q))

  reduced : (z : ℕ) → Congruent (2 ^ 64) (z * (T % 2 ^ 64)) (z * T)
  reduced z = congruent_mul (2 ^ 64) z (T % 2 ^ 64) T (mod-mod T (2 ^ 64))

  -- T may be reduced
  pub edited_mod : (inserts : Bool) → edited_by inserts c x y F (T % 2 ^ 64) ≡ edited_by inserts c x y F T
  unfolding edited_by
  edited_mod true = omega (arith, reduced x, reduced F)
  edited_mod false = minus_cong _ _ _ _ (omega (arith, reduced F)) (omega (arith, reduced x))

-- without predecessors every F is 0
pub sum_none : (n : ℕ) (l : List ℕ) → sum_at n l 0 ≡ 0
sum_none n l = ap (λ y. y % 2 ^ 64) (sum_all_zero n _ (λ k h. rw (bit_zero k) (zero-mul (get_or l k 0))))
