-- The ways out of `number` and `decode`, and the tests of the bytes that their laws speak of. Assumes nothing.
use mathlib.Core.Path.{◌≡◌, refl, sym, ◌∙◌}
use mathlib.Core.Bool.{Bool, true, false, cond, ◌&&◌, and-false, and-eq-true_iff}
use mathlib.Core.List.{List}
use Prim.Native.Nat.{ℕ, ◌≤◌, ◌<◌}
use native.Mathlib.Omega.{arith}
use borrow.Author.Tests.{ltb-true, leb-true, ne_eqb}
use lib.Dec.{leb, ltb}
use lib.ListN.{length, get_or, take}
use lib.Seq.{length-take-le, take_all, get_or-take}
use Rattle.std.proofs.Common.{Result, Ok, Err}
use Rattle.record.specs.declared.Malformed.{Malformed}
use Rattle.record.specs.declared.Record.TheVariants.{Insert, Delete}
use Rattle.record.specs.Record.{insert_letter, delete_letter, malformed, are_digits, from_digits, by_letter, decoded, rest_fits, said}

-- ---- two digits

pub digits : (tens ones : ℕ) → are_digits tens ones ≡ true → (48 ≤ tens) × (tens ≤ 57) × (48 ≤ ones) × (ones ≤ 57)
unfolding are_digits
digits tens ones d =
    let a = (and-eq-true_iff (leb 48 tens) _).0 d in
    let b = (and-eq-true_iff (leb tens 57) _).0 a.1 in
    let c = (and-eq-true_iff (leb 48 ones) _).0 b.1 in
    (leb-true _ _ a.0, leb-true _ _ b.0, leb-true _ _ c.0, leb-true _ _ c.1)

-- ---- `number`: x is what two digits are read to write

number_none : (t : Bool) (m : ℕ) → Err malformed ≡ cond t (Ok m) (Err malformed) → t ≡ false
number_none true m e = absurd (cc)
number_none false m e = refl

number_some : (t : Bool) (m x : ℕ) → Ok x ≡ cond t (Ok m) (Err malformed) → (t ≡ true) × (m ≡ x)
number_some true m x e = (refl, cc)
number_some false m x e = absurd (cc)

-- ---- decode

module _ (l : List ℕ) where
  pub decode_short : length l < 8 → Err malformed ≡ decoded (take 8 l)
  unfolding decoded
  decode_short h = rw (take_all 8 l (omega arith), ne_eqb (length l) 8 (λ e. omega arith)) refl

  abbrev at : ℕ → ℕ
  at i = get_or l i 0

  -- what two digits write, or malformed if a byte is no digit
  abbrev written : ℕ → ℕ → Result ℕ Malformed
  written tens ones = cond (are_digits tens ones) (Ok (from_digits tens ones)) (Err malformed)

  module _ (long : 8 ≤ length l) where
    byte : (i : ℕ) → ltb i 8 ≡ true → get_or (take 8 l) i 0 ≡ at i
    byte i e = get_or-take 8 l i 0 (ltb-true i 8 e)

    whole : decoded (take 8 l) ≡ cond (rest_fits at) (said at) (Err malformed)
    unfolding decoded
    whole = simp (length-take-le 8 l long, byte)

    pub decode_first : (at 1 ≡ 32 → ⊥) → Err malformed ≡ decoded (take 8 l)
    decode_first d = sym (whole ∙ rw (ne_eqb (at 1) 32 d) refl)

    pub decode_second : (at 4 ≡ 32 → ⊥) → Err malformed ≡ decoded (take 8 l)
    decode_second d = sym (whole ∙ simp (ne_eqb (at 4) 32 d, and-false))

    pub decode_third : (at 7 ≡ 10 → ⊥) → Err malformed ≡ decoded (take 8 l)
    decode_third d = sym (whole ∙ simp (ne_eqb (at 7) 10 d, and-false))

    module _ (e₁ : at 1 ≡ 32) (e₄ : at 4 ≡ 32) (e₇ : at 7 ≡ 10) where
      digits_left : decoded (take 8 l) ≡ cond (are_digits (at 2) (at 3) && are_digits (at 5) (at 6)) (said at) (Err malformed)
      digits_left = whole ∙ rw (e₁, e₄, e₇) refl

      pub decode_from : Err malformed ≡ written (at 2) (at 3) → Err malformed ≡ decoded (take 8 l)
      decode_from e = sym (digits_left ∙ rw (number_none _ _ e) refl)

      pub decode_to : Err malformed ≡ written (at 5) (at 6) → Err malformed ≡ decoded (take 8 l)
      decode_to e = sym (digits_left ∙ simp (number_none _ _ e, and-false))

      module _ (u v : ℕ) (eu : Ok u ≡ written (at 2) (at 3)) (ev : Ok v ≡ written (at 5) (at 6)) where
        letter_left : decoded (take 8 l) ≡ by_letter (at 0) u v
        letter_left = let p = number_some _ _ u eu in let q = number_some _ _ v ev in digits_left ∙ rw (p.0, q.0, p.1, q.1) refl

        pub decode_insert : at 0 ≡ insert_letter → Ok (Insert u v) ≡ decoded (take 8 l)
        decode_insert e = sym (letter_left ∙ rw e refl)

        pub decode_delete : at 0 ≡ delete_letter → Ok (Delete u v) ≡ decoded (take 8 l)
        decode_delete e = sym (letter_left ∙ rw e refl)

        pub decode_other : (at 0 ≡ insert_letter → ⊥) → (at 0 ≡ delete_letter → ⊥) → Err malformed ≡ decoded (take 8 l)
        decode_other d d' = sym (letter_left ∙ rw (ne_eqb (at 0) insert_letter d, ne_eqb (at 0) delete_letter d') refl)
