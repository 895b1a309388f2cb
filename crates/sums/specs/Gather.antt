-- Lists put one after the other. Definitions only. Assumes nothing.
use Rattle.std.specs.Prelude.{List, [], ◌++◌, ℕ, zero, suc}

-- f 0, f 1, .., f (n - 1), one after the other
unfoldable pub gather : {A : Type 0} → ℕ → (ℕ → List A) → List A
gather zero f = []
gather (suc n) f = gather n f ++ f n
