-- Remainders by m, under sums and products. The laws at m = 0 are those of equality. Assumes nothing.
use mathlib.Core.Path.{◌≡◌, refl, sym, ap, ap₂, ◌∙◌}
use Prim.Native.Nat.{ℕ, zero, suc, ◌+◌, ◌*◌, ◌%◌, ◌<◌}
use native.Mathlib.Nat.{add-mod, zero-mul, suc-mul, le_step, le_refl, mod-zero, mul_comm, mul-suc, add_right_cancel, add-mul-mod_self_right}
use native.Mathlib.Omega.{arith}
use Rattle.sums.specs.Sum.{sum}
use Rattle.sums.specs.Modulo.{Congruent}

pub congruent_zero : {x y : ℕ} → Congruent 0 x y → x ≡ y
congruent_zero {x} {y} e = sym (mod-zero x) ∙ e ∙ mod-zero y

pub congruent_add : (m a b c d : ℕ) → Congruent m a c → Congruent m b d → Congruent m (a + b) (c + d)
congruent_add m a b c d p q = add-mod a b m ∙ ap₂ (λ x y. (x + y) % m) p q ∙ sym (add-mod c d m)

pub congruent_mul : (m c x y : ℕ) → Congruent m x y → Congruent m (c * x) (c * y)
congruent_mul m zero x y p = rw (zero-mul x, zero-mul y)
congruent_mul m (suc c) x y p = rw (suc-mul c x, suc-mul c y) (congruent_add m (c * x) x (c * y) y (congruent_mul m c x y p) p)

pub congruent_product : (m a b c d : ℕ) → Congruent m a c → Congruent m b d → Congruent m (a * b) (c * d)
congruent_product m a b c d p q = congruent_mul m a b d q ∙ rw (mul_comm a d, mul_comm c d) (congruent_mul m d a c p)

-- what is added on both sides may be taken away
pub congruent_cancel : (m a b c : ℕ) → Congruent m (a + c) (b + c) → Congruent m a b
congruent_cancel zero a b c e = ap (λ x. x % 0) (add_right_cancel c (congruent_zero e))
congruent_cancel (suc m) a b c e =
    sym (whole a) ∙ congruent_add (suc m) (a + c) (c * m) (b + c) (c * m) e refl ∙ whole b
  where
    whole : (x : ℕ) → Congruent (suc m) (x + c + c * m) x
    whole x = ap (λ y. y % suc m) (omega (arith, mul-suc c m)) ∙ add-mul-mod_self_right x c (suc m)

pub congruent_sum : (m n : ℕ) (f g : ℕ → ℕ) → ((i : ℕ) → i < n → Congruent m (f i) (g i)) → Congruent m (sum n f) (sum n g)
unfolding sum
congruent_sum m zero f g h = refl
congruent_sum m (suc n) f g h = congruent_add m (sum n f) (f n) (sum n g) (g n) (congruent_sum m n f g (λ i p. h i (le_step p))) (h n (le_refl (suc n)))
