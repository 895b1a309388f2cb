-- The laws of arithmetic modulo 2 ^ 64: the difference, and the product by halves. Assumes nothing.
use Rattle.std.proofs.Common.{◌≡◌, ℕ, ◌+◌, ◌*◌, ◌/◌, ◌%◌, ◌^◌, ◌<◌, sym, refl, ap, ◌∙◌, ap₂, mul_assoc, add-mul, mul-add, mul_right_comm, mul_left_comm, arith}
use native.Mathlib.Nat.{mod-mod, mod-add-mod, mul-mul-mul_comm, add-mul-mod_self_right}
use lib.Pow.{split}
use Rattle.sums.specs.Modulo.{Congruent}
use Rattle.sums.proofs.ModuloLaws.{congruent_add, congruent_product}
use Rattle.word.specs.Wrap.{minus}

-- ---- the difference

pub minus_lt : (x y : ℕ) → minus x y < 2 ^ 64
unfolding minus
minus_lt x y = omega arith

-- with y added the difference leaves the remainder of x
pub minus_add : (x y : ℕ) → Congruent (2 ^ 64) (minus x y + y) x
unfolding minus
minus_add x y = omega arith

-- and is the only word that does
pub minus_congruent : (r x y : ℕ) → r < 2 ^ 64 → Congruent (2 ^ 64) (r + y) x → r ≡ minus x y
unfolding minus
minus_congruent r x y h e = omega arith

-- so it is the only one that y added to wraps back to the word x
pub minus_only : (r x y : ℕ) → r < 2 ^ 64 → (r + y) % 2 ^ 64 ≡ x → r ≡ minus x y
minus_only r x y h e = minus_congruent r x y h (omega arith)

-- ---- the product

-- a product by halves of base h
product_halves : (h a₁ a₀ b₁ b₀ : ℕ) → ((a₁ * b₀ + b₁ * a₀) * h + a₀ * b₀) + a₁ * b₁ * (h * h) ≡ (a₁ * h + a₀) * (b₁ * h + b₀)
product_halves h a₁ a₀ b₁ b₀ =
    omega (
      arith,
      add-mul (a₁ * h) a₀ (b₁ * h + b₀),
      mul-add (a₁ * h) (b₁ * h) b₀,
      mul-add a₀ (b₁ * h) b₀,
      add-mul (a₁ * b₀) (b₁ * a₀) h,
      mul-mul-mul_comm a₁ h b₁ h,
      mul_right_comm a₁ h b₀,
      mul_left_comm a₀ b₁ h,
      mul_assoc b₁ a₀ h,
    )

-- the product of two words, from x, the sum of the cross products, and the product of the low halves l and m
pub product_wraps : (a b l m x r : ℕ) → l ≡ a % 2 ^ 32 → m ≡ b % 2 ^ 32 → x ≡ (a / 2 ^ 32 * m + b / 2 ^ 32 * l) % 2 ^ 64
    → r ≡ (x * 2 ^ 32 % 2 ^ 64 + l * m) % 2 ^ 64 → r ≡ a * b % 2 ^ 64
product_wraps a b l m x r el em ex er =
    let s : ℕ = a / 2 ^ 32 * m + b / 2 ^ 32 * l in
    let ec : Congruent (2 ^ 64) x s = ap (λ y. y % 2 ^ 64) ex ∙ mod-mod s (2 ^ 64) in
    er
    ∙ mod-add-mod (x * 2 ^ 32) (2 ^ 64) (l * m)
    ∙ congruent_add (2 ^ 64) (x * 2 ^ 32) (l * m) (s * 2 ^ 32) (l * m) (congruent_product (2 ^ 64) x (2 ^ 32) s (2 ^ 32) ec refl) refl
    ∙ sym (add-mul-mod_self_right (s * 2 ^ 32 + l * m) (a / 2 ^ 32 * (b / 2 ^ 32)) (2 ^ 64))
    ∙ ap (λ y. y % 2 ^ 64) (product_halves (2 ^ 32) (a / 2 ^ 32) l (b / 2 ^ 32) m)
    ∙ ap₂ (λ y z. y * z % 2 ^ 64) (rw el (split a 32)) (rw em (split b 32))
