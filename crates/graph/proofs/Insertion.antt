-- The algebra of the update, of any table C: where no inserted edge closes a cycle, the updated table satisfies the recurrence of the graph with the
-- inserted edges, and C is found again from the updated table. Assumes nothing.
use mathlib.Core.Path.{◌≡◌, sym, ap, ap₂, ◌∙◌}
use Prim.Native.Nat.{ℕ, ◌+◌, ◌*◌, ◌<◌}
use native.Mathlib.Nat.{add-mul, mul-add, mul_assoc, mul_comm, zero-mul, one-mul}
use native.Mathlib.Omega.{arith}
use Rattle.sums.specs.Sum.{sum, delta}
use Rattle.sums.proofs.SumLaws.{delta_comm, sum_cong, sum_pick, sum_pick_right, mul_sum, sum_mul_add, sum_add_mul, sum_mul_right, sum_exchange}
use Rattle.graph.specs.Update.{inserted, from_sum, to_sum, updated}
use Rattle.graph.specs.Recurrence.{Recurrence}

-- two tables that agree in a row, or in a column, give the same sum there
module _ (n : ℕ) (C D : ℕ → ℕ → ℕ) where
  pub from_cong : (α : ℕ → ℕ) (i : ℕ) → ((a : ℕ) → a < n → C i a ≡ D i a) → from_sum n C α i ≡ from_sum n D α i
  unfolding from_sum
  from_cong α i h = sum_cong n _ _ (λ a p. ap (λ x. α a * x) (h a p))

  pub to_cong : (β : ℕ → ℕ) (j : ℕ) → ((b : ℕ) → b < n → C b j ≡ D b j) → to_sum n C β j ≡ to_sum n D β j
  unfolding to_sum
  to_cong β j h = sum_cong n _ _ (λ b p. ap (λ x. β b * x) (h b p))

-- a row of the edges after the insertion by a column
inserted_sum : (n : ℕ) (w : ℕ → ℕ → ℕ) (v : ℕ) (α β : ℕ → ℕ) (e : ℕ → ℕ) (i : ℕ) → v < n
    → sum n (λ b. inserted w v α β i b * e b) ≡ sum n (λ b. w i b * e b) + α i * e v + delta i v * sum n (λ b. β b * e b)
unfolding inserted
inserted_sum n w v α β e i hv =
    sum_add_mul n (λ b. w i b + α i * delta b v) (λ b. delta i v * β b) e
    ∙ ap₂ (λ x y. x + y)
    (sum_add_mul n (w i) (λ b. α i * delta b v) e
    ∙ ap (λ x. sum n (λ b. w i b * e b) + x) (scaled (α i) (λ b. delta b v) ∙ ap (λ x. α i * x) (sum_pick n v e hv)))
    (scaled (delta i v) β)
  where
    scaled : (c : ℕ) (g : ℕ → ℕ) → sum n (λ b. c * g b * e b) ≡ c * sum n (λ b. g b * e b)
    scaled c g = sum_cong n _ _ (λ b p. mul_assoc c (g b) (e b)) ∙ sym (mul_sum n c (λ b. g b * e b))

module _ (n : ℕ) (C : ℕ → ℕ → ℕ) (v : ℕ) (α β : ℕ → ℕ) where
  -- a row by a column of the updated table
  updated_sum : (f : ℕ → ℕ) (j : ℕ) →
      let T = to_sum n C β j in
      let Z = sum n (λ b. f b * from_sum n C α b) in
      sum n (λ b. f b * updated n C v α β b j) ≡ sum n (λ b. f b * C b j) + (sum n (λ b. f b * C b v) * T + Z * C v j + Z * T)
  unfolding updated
  updated_sum f j =
      let T = to_sum n C β j in
      let F = from_sum n C α in
      sum_mul_add n f (λ b. C b j) (λ b. C b v * T + F b * C v j + F b * T)
      ∙ ap (λ x. sum n (λ b. f b * C b j) + x)
      (sum_mul_add n f (λ b. C b v * T + F b * C v j) (λ b. F b * T)
      ∙ ap₂ (λ x y. x + y)
      (sum_mul_add n f (λ b. C b v * T) (λ b. F b * C v j) ∙ ap₂ (λ x y. x + y) (sum_mul_right n T f (λ b. C b v)) (sum_mul_right n (C v j) f F))
      (sum_mul_right n T f F))

  -- by the table C there is one path from v to v, and none from v to a predecessor, from a successor to v, or from a successor to a predecessor
  pub record Open : Type 0 where
    pub self : C v v ≡ 1
    pub from_v : from_sum n C α v ≡ 0
    pub to_v : to_sum n C β v ≡ 0
    pub between : sum n (λ b. β b * from_sum n C α b) ≡ 0

-- the same from the other end: every edge turned round, so that predecessors are successors
abbrev turned : (ℕ → ℕ → ℕ) → ℕ → ℕ → ℕ
turned C i j = C j i

updated_turned : (n : ℕ) (C : ℕ → ℕ → ℕ) (v : ℕ) (α β : ℕ → ℕ) (i j : ℕ) → updated n C v α β i j ≡ updated n (turned C) v β α j i
unfolding updated from_sum to_sum
updated_turned n C v α β i j =
    let T = to_sum n C β j in
    let F = from_sum n C α i in
    omega (arith, mul_comm (C i v) T, mul_comm F (C v j), mul_comm F T)

open_turned : (n : ℕ) (C : ℕ → ℕ → ℕ) (v : ℕ) (α β : ℕ → ℕ) → Open n C v α β → Open n (turned C) v β α
unfolding from_sum to_sum
open_turned n C v α β o = record { self = o.self; from_v = o.to_v; to_v = o.from_v; between = sum_exchange n α β C ∙ o.between }

module _ (n : ℕ) (C : ℕ → ℕ → ℕ) (v : ℕ) (α β : ℕ → ℕ) (o : Open n C v α β) where
  updated_from_v : (j : ℕ) → updated n C v α β v j ≡ C v j + to_sum n C β j
  unfolding updated
  updated_from_v j = rw (o.self, o.from_v, one-mul) (simp zero-mul (omega arith))

  updated_to : (j : ℕ) → to_sum n (updated n C v α β) β j ≡ to_sum n C β j
  unfolding to_sum
  updated_to j = updated_sum n C v α β β j ∙ rw (o.between, o.to_v) (simp zero-mul (omega arith))

module _ (n : ℕ) (C : ℕ → ℕ → ℕ) (v : ℕ) (α β : ℕ → ℕ) (o : Open n C v α β) where
  updated_to_v : (i : ℕ) → updated n C v α β i v ≡ C i v + from_sum n C α i
  unfolding from_sum to_sum
  updated_to_v i = updated_turned n C v α β i v ∙ updated_from_v n (turned C) v β α (open_turned n C v α β o) i

  updated_from : (i : ℕ) → from_sum n (updated n C v α β) α i ≡ from_sum n C α i
  unfolding from_sum to_sum
  updated_from i =
      from_cong n (updated n C v α β) (turned (updated n (turned C) v β α)) α i (λ a p. updated_turned n C v α β i a)
      ∙ updated_to n (turned C) v β α (open_turned n C v α β o) i

  -- the way back
  pub updated_back : (i j : ℕ) →
      let U = updated n C v α β in
      C i j + (U i v * to_sum n U β j + from_sum n U α i * U v j) ≡ U i j + from_sum n U α i * to_sum n U β j
  updated_back i j =
      rw (updated_to n C v α β o j, updated_from i, updated_to_v i, updated_from_v n C v α β o j) (simp (add-mul, mul-add) (unfold updated in omega arith))

  module _ (w : ℕ → ℕ → ℕ) (recurrence : Recurrence n w C) (hv : v < n) where
    -- the sums over the predecessors satisfy a recurrence too
    from_recurrence : (i : ℕ) → i < n → from_sum n C α i ≡ α i + sum n (λ b. w i b * from_sum n C α b)
    unfolding from_sum
    from_recurrence i hi =
        sum_cong n _ _ (λ a p. ap (λ x. α a * x) (recurrence i a hi p ∙ ap (λ x. x + sum n (λ b. w i b * C b a)) (delta_comm i a)))
        ∙ sum_mul_add n α (λ a. delta a i) (λ a. sum n (λ b. w i b * C b a))
        ∙ ap₂ (λ x y. x + y) (sum_pick_right n i α hi) (sum_exchange n α (w i) C)

    pub updated_recurrence : Recurrence n (inserted w v α β) (updated n C v α β)
    unfolding updated to_sum
    updated_recurrence i j hi hj =
        let T : ℕ = to_sum n C β j in
        let F = from_sum n C α in
        let Y = sum n (λ b. w i b * C b v) in
        let Z = sum n (λ b. w i b * F b) in
        let e₁ : C i v * T ≡ delta i v * T + Y * T = ap (λ x. x * T) (recurrence i v hi hv) ∙ add-mul (delta i v) Y T in
        let e₂ : F i * C v j ≡ α i * C v j + Z * C v j = ap (λ x. x * C v j) (from_recurrence i hi) ∙ add-mul (α i) Z (C v j) in
        let e₃ : F i * T ≡ α i * T + Z * T = ap (λ x. x * T) (from_recurrence i hi) ∙ add-mul (α i) Z T in
        let e₄ : α i * updated n C v α β v j ≡ α i * C v j + α i * T = ap (λ x. α i * x) (updated_from_v n C v α β o j) ∙ mul-add (α i) (C v j) T in
        let e₅ : delta i v * to_sum n (updated n C v α β) β j ≡ delta i v * T = ap (λ x. delta i v * x) (updated_to n C v α β o j) in
        omega (arith, recurrence i j hi hj, inserted_sum n w v α β (λ b. updated n C v α β b j) i hv, updated_sum n C v α β (w i) j)
