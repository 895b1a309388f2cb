-- Which edges an edit names, and what becomes of an edge; and as numbers: where v is not a predecessor of itself, 1 for each edge from a predecessor to v and for each
-- from v to a successor, and 0 for any other. Assumes nothing.
use mathlib.Core.Path.{◌≡◌, refl, sym, ap, subst, ◌∙◌}
use mathlib.Core.Logic.{◌⊎◌, inl, inr, ◌↔◌}
use mathlib.Core.Bool.{Bool, true, false}
use Prim.Native.Nat.{ℕ, zero, suc, ◌+◌, ◌*◌, ◌^◌, ◌≤◌, ◌<◌}
use native.Mathlib.Nat.{zero-mul, mul-zero, mul_comm}
use native.Mathlib.Decide.{ℕ_discrete}
use native.Mathlib.Omega.{arith}
use lib.Dec.{ltb}
use Rattle.sums.specs.Sum.{delta}
use Rattle.sums.proofs.SumLaws.{delta_refl, delta_diff}
use Rattle.word.specs.Bit.{bit}
use Rattle.word.proofs.BitLaws.{bit_cases, bit_zero, bit_above_zero}
use Rattle.word.proofs.MaskLaws.{bit_pow}
use Rattle.answer.proofs.TableLaws.{reflects_false}
use Rattle.edit_theory.specs.Edit.{one, at, named_at, named, one_if, marked, changed}
use Rattle.edit_theory.specs.Table.{SomeEdge}
use Rattle.edit_theory.proofs.TestLaws.{named_reflects, named_of, named_out}

-- masks name the edges from the predecessors to v and from v to the successors, and no other
pub named_at_lem : (v a b i j : ℕ) → (named (at v a b) i j ≡ true) ↔ (((bit a i ≡ 1) × (j ≡ v)) ⊎ ((i ≡ v) × (bit b j ≡ 1)))
named_at_lem v a b i j = let r = named_reflects v a b i j in (r.holds, r.shows)

bit_delta : (x i j v : ℕ) → ¬ ((bit x i ≡ 1) × (j ≡ v)) → bit x i * delta j v ≡ 0
bit_delta x i j v h = elim (bit_cases x i) [ inl z ↦ rw z (zero-mul (delta j v)) | inr o ↦ rw (delta_diff j v (λ q. h (o, q))) (mul-zero (bit x i)) ]

module _ (v a b : ℕ) where
  unnamed_number : (i j : ℕ) → named_at v a b i j ≡ false → bit a i * delta j v + delta i v * bit b j ≡ 0
  unnamed_number i j e =
      let no = (reflects_false (named_reflects v a b i j)).0 e in
      omega (arith, bit_delta a i j v (λ p. no (inl p)), mul_comm (delta i v) (bit b j), bit_delta b j i v (λ p. no (inr (p.1, p.0))))

  pub named_number : bit a v ≡ 0 → (i j : ℕ) → one_if (named_at v a b i j) ≡ bit a i * delta j v + delta i v * bit b j
  named_number z i j = go (named_at v a b i j) refl
    where
      go : (t : Bool) → named_at v a b i j ≡ t → one_if t ≡ bit a i * delta j v + delta i v * bit b j
      go false e = sym (unnamed_number i j e)
      go true e =
          elim (named_of v a b i j e) [
            | inl p ↦
                let d : i ≡ v → ⊥ = λ q. omega (arith, z, p.0, ap (bit a) q) in
                rw (p.0, p.1, delta_refl v, delta_diff i v d) (omega (arith, zero-mul (bit b j)))
            | inr p ↦ rw (p.0, z, delta_refl v, p.1) (omega (arith, zero-mul (delta j v)))
          ]

  -- an edge is there, or named, exactly if this sum is above 0; v may be a predecessor of itself, where the sum counts its edge twice
  pub named_edge : (i j x : ℕ) → (0 < x + one_if (named_at v a b i j)) ↔ (0 < x + bit a i * delta j v + delta i v * bit b j)
  named_edge i j x = go (named_at v a b i j) refl
    where
      go : (t : Bool) → named_at v a b i j ≡ t → (0 < x + one_if t) ↔ (0 < x + bit a i * delta j v + delta i v * bit b j)
      go false e = let z = unnamed_number i j e in (λ h. omega arith, λ h. omega arith)
      go true e = (
        λ h. elim (named_of v a b i j e) [ inl p ↦ rw (p.0, p.1, delta_refl v) (omega arith) | inr p ↦ rw (p.0, p.1, delta_refl v) (omega arith) ],
        λ h. omega arith,
      )

  -- no edge to a vertex at n or above is named
  pub named_below : (n i j : ℕ) → v < n → b < 2 ^ n → n ≤ j → named_at v a b i j ≡ false
  named_below n i j hv hb h =
      (reflects_false (named_reflects v a b i j)).1
      (λ c. elim c [ inl p ↦ omega (arith, p.1) | inr p ↦ omega (arith, p.1, bit_above_zero b n j hb h) ])

-- one edge from u to v names that edge alone
pub named_one : (u v i j : ℕ) → (named (one u v) i j ≡ true) ↔ ((i ≡ u) × (j ≡ v))
named_one u v i j = (
  λ e. elim (named_of u 0 (2 ^ v) i j e) [
    | inl p ↦ absurd (omega (arith, p.0, bit_zero i))
    | inr p ↦ (p.0, elim (ℕ_discrete j v) [ yes q ↦ q | no d ↦ absurd (omega (arith, p.1, bit_pow v j ∙ delta_diff j v d)) ])
  ],
  λ p. subst (λ x. named (one u v) x j ≡ true) (sym p.0) (named_out u 0 (2 ^ v) j (bit_pow v j ∙ ap (λ x. delta x v) p.1 ∙ delta_refl v)),
)

-- of one edge, some is a P exactly if it is
pub some_one : (n u v : ℕ) (P : ℕ → ℕ → Type 0) → u < n → v < n → SomeEdge n (one u v) P ↔ P u v
some_one n u v P hu hv = (
  λ c. let e = (named_one u v c.0 c.2).0 c.4 in subst (λ y. P u y) e.1 (subst (λ x. P x c.2) e.0 c.5),
  λ p. (u, hu, v, hv, (named_one u v u v).1 (refl, refl), p),
)

-- ---- what becomes of an edge

pub marked_le : (inserts t : Bool) (x : ℕ) → x ≤ 1 → marked inserts t x ≤ 1
marked_le true true x h = omega arith
marked_le false true x h = omega arith
marked_le inserts false x h = h

pub changed_other : (inserts : Bool) (x : ℕ) → changed inserts false x ≡ x
changed_other true x = omega arith
changed_other false x = omega arith

-- what there is at most once is there or not
pub one_if_positive : (x : ℕ) → x ≤ 1 → one_if (ltb 0 x) ≡ x
one_if_positive zero h = refl
one_if_positive (suc zero) h = refl
one_if_positive (suc (suc x)) h = absurd (omega arith)

-- an insertion sets the bits of one edge more, where none of those named is there
pub marked_inserts : (t : Bool) (x : ℕ) → (t ≡ true → x ≡ 0) → marked true t x ≡ changed true t x
marked_inserts true x h = omega (arith, h refl)
marked_inserts false x h = omega arith

-- a deletion clears those of one less, where all of those named are there
pub marked_deletes : (t : Bool) (x : ℕ) → (t ≡ true → x ≡ 1) → (marked false t x ≡ changed false t x) × (x ≡ changed false t x + one_if t)
marked_deletes true x h = let e = h refl in (omega arith, omega arith)
marked_deletes false x h = (omega arith, omega arith)
