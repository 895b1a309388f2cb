-- Document 01's table of refusals: of the conditions in their order, the first that holds gives the number. Definitions only.
-- Assumes nothing.
use Rattle.std.specs.Prelude.{◌≡◌, ◌⊎◌, Bool, true, cond, List, [], ◌∷◌, ℕ}

-- a condition, or a test of one, with the number that it gives
infix 75 ◌gives◌
abbrev pub ◌gives◌ {ℓ} : {A : Type ℓ} → A → ℕ → A × ℕ
p gives k = (p, k)

abbrev pub Conditions : Type 1
Conditions = List (Type 0 × ℕ)

-- k is the number of the first condition that holds, and 0 where none does
abbrev pub First : Conditions → ℕ → Type 0
First [] k = k ≡ 0
First (c ∷ l) k = (c.0 × (k ≡ c.1)) ⊎ ((¬ c.0) × First l k)

abbrev pub Tests : Type 0
Tests = List (Bool × ℕ)

-- the number of the first test that is true, and 0 where none is
unfoldable pub first_true : Tests → ℕ
first_true [] = 0
first_true (t ∷ l) = cond t.0 t.1 (first_true l)

-- the test t is true exactly where P holds
pub record Reflects (t : Bool) (P : Type 0) : Type 0 where
  pub holds : t ≡ true → P
  pub shows : P → t ≡ true
