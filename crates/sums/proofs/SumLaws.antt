-- The laws of sums and of Kronecker's delta. Assumes nothing.
use mathlib.Core.Path.{◌≡◌, refl, sym, ap, ap₂, ◌∙◌}
use mathlib.Core.Logic.{◌≢◌}
use Prim.Native.Nat.{ℕ, zero, suc, ◌+◌, ◌*◌, ◌≤◌, ◌<◌, zero-le}
use native.Mathlib.Nat.{mul-zero, zero-mul, suc-mul, mul_comm, mul_assoc, mul-add, add-mul, le_refl, le_step, add-le-add}
use native.Mathlib.Decide.{ℕ_discrete, dec_lt}
use native.Mathlib.Omega.{arith}
use Rattle.sums.specs.Sum.{sum, delta}

pub delta_refl : (i : ℕ) → delta i i ≡ 1
unfolding delta
delta_refl zero = refl
delta_refl (suc i) = delta_refl i

pub delta_diff : (i j : ℕ) → i ≢ j → delta i j ≡ 0
unfolding delta
delta_diff zero zero h = absurd (h refl)
delta_diff zero (suc j) h = refl
delta_diff (suc i) zero h = refl
delta_diff (suc i) (suc j) h = delta_diff i j (λ e. h (ap suc e))

pub delta_comm : (i j : ℕ) → delta i j ≡ delta j i
delta_comm i j = elim (ℕ_discrete i j) [ yes e ↦ rw e | no d ↦ delta_diff i j d ∙ sym (delta_diff j i (λ e. d (sym e))) ]

-- ---- laws of sums

pub sum_cong : (n : ℕ) (f g : ℕ → ℕ) → ((i : ℕ) → i < n → f i ≡ g i) → sum n f ≡ sum n g
unfolding sum
sum_cong zero f g h = refl
sum_cong (suc n) f g h = ap₂ (λ x y. x + y) (sum_cong n f g (λ i p. h i (le_step p))) (h n (le_refl (suc n)))

pub sum_add : (n : ℕ) (f g : ℕ → ℕ) → sum n (λ i. f i + g i) ≡ sum n f + sum n g
unfolding sum
sum_add zero f g = refl
sum_add (suc n) f g = omega (arith, sum_add n f g)

-- the first term, and the others
pub sum_first : (n : ℕ) (f : ℕ → ℕ) → sum (suc n) f ≡ f 0 + sum n (λ i. f (suc i))
unfolding sum
sum_first zero f = omega arith
sum_first (suc n) f = omega (arith, sum_first n f)

pub sum_const : (n c : ℕ) → sum n (λ _. c) ≡ n * c
unfolding sum
sum_const zero c = sym (zero-mul c)
sum_const (suc n) c = ap (λ (x : ℕ). x + c) (sum_const n c) ∙ sym (suc-mul n c)

pub sum_all_zero : (n : ℕ) (f : ℕ → ℕ) → ((i : ℕ) → i < n → f i ≡ 0) → sum n f ≡ 0
sum_all_zero n f h = sum_cong n f (λ _. 0) h ∙ sum_const n 0 ∙ mul-zero n

pub mul_sum : (n c : ℕ) (f : ℕ → ℕ) → c * sum n f ≡ sum n (λ i. c * f i)
unfolding sum
mul_sum zero c f = mul-zero c
mul_sum (suc n) c f = rw (mul-add, mul_sum n c f)

sum_mul : (n c : ℕ) (f : ℕ → ℕ) → sum n f * c ≡ sum n (λ i. f i * c)
sum_mul n c f = mul_comm (sum n f) c ∙ mul_sum n c f ∙ sum_cong n _ _ (λ i p. mul_comm c (f i))

pub sum_swap : (n m : ℕ) (f : ℕ → ℕ → ℕ) → sum n (λ i. sum m (λ j. f i j)) ≡ sum m (λ j. sum n (λ i. f i j))
unfolding sum
sum_swap zero m f = sym (sum_all_zero m _ (λ j p. refl))
sum_swap (suc n) m f = ap (λ x. x + sum m (f n)) (sum_swap n m f) ∙ sym (sum_add m (λ j. sum n (λ i. f i j)) (f n))

-- a longer sum is no less, and is the same where the terms between are 0
pub sum_longer : (b c : ℕ) (f : ℕ → ℕ) → b ≤ c → sum b f ≤ sum c f
unfolding sum
sum_longer b zero f h = let e : b ≡ 0 = omega arith in rw e (omega arith)
sum_longer b (suc c) f h = elim (ℕ_discrete b (suc c)) [ yes e ↦ rw e (omega arith) | no d ↦ omega (arith, sum_longer b c f (omega arith)) ]

pub sum_far : (c b : ℕ) (f : ℕ → ℕ) → c ≤ b → ((a : ℕ) → c ≤ a → a < b → f a ≡ 0) → sum b f ≡ sum c f
unfolding sum
sum_far c zero f h z = let e : c ≡ 0 = omega arith in rw e
sum_far c (suc b) f h z =
    elim (ℕ_discrete c (suc b)) [
      | yes e ↦ rw e
      | no d ↦ omega (arith, z b (omega arith) (omega arith), sum_far c b f (omega arith) (λ a p q. z a p (omega arith)))
    ]

-- a term is at most the sum
pub term_le : (n : ℕ) (f : ℕ → ℕ) (i : ℕ) → i < n → f i ≤ sum n f
unfolding sum
term_le n f i h = omega (arith, sum_longer (suc i) n f h)

-- a sum that is not 0 has a term that is not 0
pub some_term : (n : ℕ) (f : ℕ → ℕ) → 0 < sum n f → (i : ℕ) × (i < n) × (0 < f i)
unfolding sum
some_term zero f h = absurd (omega arith)
some_term (suc n) f h =
    elim (dec_lt 0 (f n)) [
      | yes p ↦ (n, omega arith, p)
      | no z ↦ let r = some_term n f (omega arith) in (r.0, omega arith, r.2)
    ]

pub sum_mono : (n : ℕ) (f g : ℕ → ℕ) → ((i : ℕ) → i < n → f i ≤ g i) → sum n f ≤ sum n g
unfolding sum
sum_mono zero f g h = zero-le
sum_mono (suc n) f g h = add-le-add (sum_mono n f g (λ i p. h i (le_step p))) (h n (le_refl (suc n)))

-- ---- the sum against `delta` picks one term

sum_none : (n v : ℕ) (f : ℕ → ℕ) → n ≤ v → sum n (λ i. delta i v * f i) ≡ 0
sum_none n v f h = sum_all_zero n (λ i. delta i v * f i) (λ i p. rw (delta_diff i v (omega arith)) (zero-mul (f i)))

pub sum_pick : (n v : ℕ) (f : ℕ → ℕ) → v < n → sum n (λ i. delta i v * f i) ≡ f v
unfolding sum
sum_pick zero v f h = absurd (omega arith)
sum_pick (suc n) v f h =
    elim (ℕ_discrete n v) [
      | yes e ↦ rw (sum_none n v f (omega arith), e, delta_refl v) (omega arith)
      | no d ↦ rw (delta_diff n v d) (omega (arith, sum_pick n v f (omega arith)))
    ]

pub sum_pick' : (n v : ℕ) (f : ℕ → ℕ) → v < n → sum n (λ i. delta v i * f i) ≡ f v
sum_pick' n v f h = sum_cong n _ _ (λ i p. ap (λ x. x * f i) (delta_comm v i)) ∙ sum_pick n v f h

pub sum_pick_right : (n v : ℕ) (f : ℕ → ℕ) → v < n → sum n (λ i. f i * delta i v) ≡ f v
sum_pick_right n v f h = sum_cong n _ _ (λ i p. mul_comm (f i) (delta i v)) ∙ sum_pick n v f h

-- ---- sums of products: a row by a column

pub sum_mul_add : (n : ℕ) (f g h : ℕ → ℕ) → sum n (λ i. f i * (g i + h i)) ≡ sum n (λ i. f i * g i) + sum n (λ i. f i * h i)
sum_mul_add n f g h = sum_cong n _ _ (λ i p. mul-add (f i) (g i) (h i)) ∙ sum_add n (λ i. f i * g i) (λ i. f i * h i)

pub sum_add_mul : (n : ℕ) (f g h : ℕ → ℕ) → sum n (λ i. (f i + g i) * h i) ≡ sum n (λ i. f i * h i) + sum n (λ i. g i * h i)
sum_add_mul n f g h = sum_cong n _ _ (λ i p. add-mul (f i) (g i) (h i)) ∙ sum_add n (λ i. f i * h i) (λ i. g i * h i)

-- a factor that is the same in every term, at the right end
pub sum_mul_right : (n c : ℕ) (f g : ℕ → ℕ) → sum n (λ i. f i * (g i * c)) ≡ sum n (λ i. f i * g i) * c
sum_mul_right n c f g = sum_cong n _ _ (λ i p. sym (mul_assoc (f i) (g i) c)) ∙ sym (sum_mul n c (λ i. f i * g i))

-- a row by a table by a column, bracketed either way
pub sum_assoc : (n : ℕ) (f : ℕ → ℕ) (g : ℕ → ℕ → ℕ) (h : ℕ → ℕ)
    → sum n (λ b. f b * sum n (λ a. g b a * h a)) ≡ sum n (λ a. sum n (λ b. f b * g b a) * h a)
sum_assoc n f g h =
    sum_cong n _ _ (λ b p. mul_sum n (f b) (λ a. g b a * h a) ∙ sum_cong n _ _ (λ a q. sym (mul_assoc (f b) (g b a) (h a))))
    ∙ sum_swap n n (λ b a. f b * g b a * h a)
    ∙ sum_cong n _ _ (λ a p. sym (sum_mul n (h a) (λ b. f b * g b a)))

-- a table weighted by rows and by columns, summed in either order
pub sum_exchange : (n : ℕ) (f g : ℕ → ℕ) (h : ℕ → ℕ → ℕ) → sum n (λ a. f a * sum n (λ b. g b * h b a)) ≡ sum n (λ b. g b * sum n (λ a. f a * h b a))
sum_exchange n f g h =
    sum_cong n _ _ (λ a p. mul_comm (f a) (sum n (λ b. g b * h b a)))
    ∙ sym (sum_assoc n g h f)
    ∙ sum_cong n _ _ (λ b p. ap (λ x. g b * x) (sum_cong n _ _ (λ a q. mul_comm (h b a) (f a))))
