-- The laws of one row after an edit, bit by bit. Assumes nothing.
use mathlib.Core.Path.{◌≡◌, refl, sym, ap, ◌∙◌}
use mathlib.Core.Bool.{Bool, true, false, ◌&&◌, ◌||◌}
use mathlib.Core.List.{List}
use Prim.Native.Nat.{ℕ, ◌^◌, ◌≤◌, ◌<◌}
use native.Mathlib.Decide.{ℕ_discrete}
use native.Mathlib.Omega.{arith}
use borrow.Author.Tests.{eq-eqb, ne_eqb}
use lib.Dec.{eqb}
use Rattle.sums.proofs.SumLaws.{delta_refl, delta_diff}
use Rattle.word.specs.Bit.{bit, has_bit}
use Rattle.word.proofs.BitLaws.{bit_zero, bit_lt, of_bits_lt, bit_of_bits, of_bits_only}
use Rattle.word.proofs.MaskLaws.{bit_pow}
use Rattle.sheet_theory.specs.Layout.{row_at, edge_at}
use Rattle.edit_theory.specs.Edit.{named_at, marked}
use Rattle.edit_theory.specs.Outcome.{edited_row}
use Rattle.edit_theory.proofs.NamedLaws.{marked_le}

-- ---- the edges that are named

has_zero : (j : ℕ) → has_bit 0 j ≡ false
has_zero j = rw (bit_zero j)

pub has_pow : (v j : ℕ) → has_bit (2 ^ v) j ≡ eqb j v
has_pow v j =
    ap (λ (x : ℕ). eqb x 1) (bit_pow v j)
    ∙ elim (ℕ_discrete j v) [
      | yes e ↦ rw (e, delta_refl v) (sym (eq-eqb v v refl))
      | no d ↦ rw (delta_diff j v d) (sym (ne_eqb j v d))
    ]

-- with no successors
pub named_none : (v a i j : ℕ) → named_at v a 0 i j ≡ (has_bit a i && eqb j v)
named_none v a i j = rw (has_zero j) (or_never (has_bit a i && eqb j v) (eqb i v))
  where
    or_never : (x y : Bool) → (x || y && false) ≡ x
    or_never true y = refl
    or_never false true = refl
    or_never false false = refl

-- the successors are those of v alone
pub named_other : (v a b i j : ℕ) → (i ≡ v → ⊥) → named_at v a b i j ≡ named_at v a 0 i j
named_other v a b i j d = rw (ne_eqb i v d)

-- at v they are marked on top of the rest
pub named_both : (inserts : Bool) (v a b j x : ℕ) → marked inserts (has_bit b j) (marked inserts (named_at v a 0 v j) x) ≡ marked inserts (named_at v a b v j) x
named_both inserts v a b j x = rw (named_none v a v j, eq-eqb v v refl) (both (has_bit b j) (has_bit a v && eqb j v))
  where
    both : (p q : Bool) → marked inserts p (marked inserts q x) ≡ marked inserts (q || true && p) x
    both true true = refl
    both true false = refl
    both false true = refl
    both false false = refl

-- ---- a row, bit by bit

module _ (inserts : Bool) (s : List ℕ) (v a b i : ℕ) where
  edited_le : (j : ℕ) → marked inserts (named_at v a b i j) (edge_at s i j) ≤ 1
  edited_le j = marked_le inserts (named_at v a b i j) (edge_at s i j) (omega (arith, bit_lt (row_at s i) j))

  pub bit_edited : (j : ℕ) → j < 64 → bit (edited_row inserts s v a b i) j ≡ marked inserts (named_at v a b i j) (edge_at s i j)
  unfolding edited_row
  bit_edited j l = bit_of_bits _ edited_le j l

  pub edited_only : (x : ℕ) → x < 2 ^ 64 → ((j : ℕ) → j < 64 → bit x j ≡ marked inserts (named_at v a b i j) (edge_at s i j)) → x ≡ edited_row inserts s v a b i
  unfolding edited_row
  edited_only x h e = of_bits_only x _ edited_le h e

  pub edited_lt : edited_row inserts s v a b i < 2 ^ 64
  unfolding edited_row
  edited_lt = of_bits_lt _ edited_le

-- without an edge named a row is left as it is
pub edited_none : (inserts : Bool) (s : List ℕ) (v i : ℕ) → row_at s i < 2 ^ 64 → row_at s i ≡ edited_row inserts s v 0 0 i
edited_none inserts s v i h = edited_only inserts s v 0 0 i (row_at s i) h (λ j l. rw (named_none v 0 i j, has_zero i))
