-- The laws of a search over the bits of a mask, by the lowest bit of what is left of it, and of what it tells: what `some_of` does.
-- Assumes nothing.
use Rattle.std.proofs.Common.{refl}
use mathlib.Core.Path.{◌≡◌}
use mathlib.Core.Bool.{Bool, true, false, false≢true}
use Prim.Native.Nat.{ℕ, suc, ◌^◌, ◌<◌}
use native.Mathlib.Decide.{ℕ_discrete}
use native.Mathlib.Omega.{arith}
use Rattle.word.specs.Bit.{word_bits, bit, Lowest, LowestCleared}
use Rattle.word.proofs.BitLaws.{bit_one_lt}
use Rattle.word.proofs.VisitLaws.{Visiting, Passes, visiting_more, visiting_done}
use Rattle.answer.specs.Table.{Reflects}
use Rattle.answer.proofs.TableLaws.{reflects_true, reflects_none, reflects_false}
use Rattle.edit_theory.specs.Table.{SomeOf}
use Rattle.edit.specs.Internal.{Tells}

-- each place of the mask below k fails
abbrev FailBelow : ℕ → (ℕ → Bool → Type 0) → ℕ → Type 0
FailBelow mask Test k = (a : ℕ) → a < k → bit mask a ≡ 1 → Test a false

-- each place of the mask that is gone from rest fails
abbrev pub Searching : ℕ → ℕ → (ℕ → Bool → Type 0) → Type 0
Searching mask rest Test = Visiting word_bits mask (FailBelow mask Test) rest

module _ (mask : ℕ) (Test : ℕ → Bool → Type 0) where
  one_more : (k : ℕ) → (bit mask k ≡ 1 → Test k false) → FailBelow mask Test k → FailBelow mask Test (suc k)
  one_more k d was a h o = elim (ℕ_discrete a k) [ yes e ↦ rw e (d (rw e at o)) | no q ↦ was a (omega (arith, q)) o ]

  passes : Passes word_bits mask (FailBelow mask Test)
  passes k h z was = one_more k (λ o. absurd (omega arith)) was

  -- what is left of the mask has no bit
  pub searching_done : mask < 2 ^ word_bits → (rest : ℕ) → Searching mask rest Test → rest ≡ 0 → Tells mask Test false
  searching_done h rest was e = record {
    passes = λ q. absurd (false≢true q);
    fail = λ q k o. visiting_done word_bits mask _ passes rest was e k (bit_one_lt word_bits mask k h o) o;
  }

  module _ (rest b : ℕ) (was : Searching mask rest Test) (low : Lowest rest b) where
    pub searching_more : (r : ℕ) → Test b false → LowestCleared rest r → Searching mask r Test
    searching_more r d e = visiting_more word_bits mask _ passes rest was b low _ r e (λ h o p. one_more b (λ _. d) p)

  -- where the test is whether a place is a P
  pub tells_some : (n : ℕ) (P : ℕ → Type 0) → mask < 2 ^ n → ((k : ℕ) → k < n → (t : Bool) → Test k t → Reflects t (P k)) → (r : Bool) → Tells mask Test r
      → Reflects r (SomeOf n mask P)
  tells_some n P h test true told =
      let c = told.passes refl in
      let within = bit_one_lt n mask c.0 h c.1 in
      reflects_true (c.0, within, c.1, (test c.0 within true c.2).holds refl)
  tells_some n P h test false told = reflects_none (λ c. (reflects_false (test c.0 c.1 false (told.fail refl c.0 c.2))).0 refl c.3)
