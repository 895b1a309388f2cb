-- The laws of the records: what some bytes are read to say is what the form says, and only that. Assumes nothing.
use mathlib.Core.Path.{◌≡◌, refl, sym, ap, subst, ◌∙◌}
use mathlib.Core.Logic.{◌⊎◌, inl, inr, ⊎_elim, ◌↔◌}
use mathlib.Core.Bool.{Bool, true, false, cond, ◌&&◌, and-eq-true_iff}
use mathlib.Core.List.{List, [], ◌∷◌}
use Prim.Native.Nat.{ℕ, suc, ◌+◌, ◌/◌, ◌%◌, ◌<◌}
use native.Mathlib.Omega.{arith}
use native.Mathlib.Decide.{ℕ_discrete}
use borrow.Author.Tests.{ltb-true, le-leb, eqb-true, ne_eqb}
use lib.Dec.{ltb, eqb}
use lib.ListN.{length, get_or, drop}
use lib.Seq.{drop-cons, drop-length}
use Rattle.std.proofs.Common.{Ok, Err}
use Rattle.record.specs.declared.Record.TheVariants.{Insert, Delete}
use Rattle.record.specs.Record.{insert_letter, delete_letter, encoded, IsRecord, OfForm, Reading, malformed, Says, record_number, rest_fits, said}
use Rattle.record.specs.Record.{are_digits, from_digits, by_letter, decoded}
use Rattle.record.proofs.CodecLaws.{digits}

-- ---- two digits

digits_of : (x : ℕ) → x < 100 → are_digits (48 + x / 10) (48 + x % 10) ≡ true
unfolding are_digits
digits_of x h =
    rw (
      le-leb 48 (48 + x / 10) (omega arith),
      le-leb (48 + x / 10) 57 (omega arith),
      le-leb 48 (48 + x % 10) (omega arith),
      le-leb (48 + x % 10) 57 (omega arith),
    ) refl

from_digits_of : (x : ℕ) → from_digits (48 + x / 10) (48 + x % 10) ≡ x
from_digits_of x = omega arith

from_digits_back : (a b : ℕ) → are_digits a b ≡ true → (from_digits a b < 100) × (48 + from_digits a b / 10 ≡ a) × (48 + from_digits a b % 10 ≡ b)
from_digits_back a b d = let x = digits a b d in (omega (arith, x), omega (arith, x), omega (arith, x))

-- ---- what is written is read

-- with any letter, and with the two that a record may have
pub decoded_encoded : (c u v : ℕ) → u < 100 → v < 100 → decoded (encoded c u v) ≡ by_letter c u v
unfolding decoded
decoded_encoded c u v hu hv = rw (digits_of u hu, digits_of v hv, from_digits_of u, from_digits_of v) refl

pub read_back : (u v : ℕ) → u < 100 → v < 100
    → (decoded (encoded insert_letter u v) ≡ Ok (Insert u v)) × (decoded (encoded delete_letter u v) ≡ Ok (Delete u v))
read_back u v hu hv = (decoded_encoded insert_letter u v hu hv, decoded_encoded delete_letter u v hu hv)

-- the letters and the digits are bytes of the record
pub encoded_injective : (c u v c' u' v' : ℕ) → encoded c u v ≡ encoded c' u' v' → (c ≡ c') × (u ≡ u') × (v ≡ v')
encoded_injective c u v c' u' v' e =
    let at : (i : ℕ) → get_or (encoded c u v) i 0 ≡ get_or (encoded c' u' v') i 0 = λ i. ap (λ (l : List ℕ). get_or l i 0) e in
    (at 0, omega (arith, at 2, at 3), omega (arith, at 5, at 6))

-- ---- what is read was written

-- eight bytes, one by one
eight : (b : List ℕ) → length b ≡ 8
    → b ≡ get_or b 0 0 ∷ get_or b 1 0 ∷ get_or b 2 0 ∷ get_or b 3 0 ∷ get_or b 4 0 ∷ get_or b 5 0 ∷ get_or b 6 0 ∷ get_or b 7 0 ∷ []
eight b e = next 0 refl (next 1 refl (next 2 refl (next 3 refl (next 4 refl (next 5 refl (next 6 refl (next 7 refl none)))))))
  where
    next : (j : ℕ) {r : List ℕ} → ltb j 8 ≡ true → drop (suc j) b ≡ r → drop j b ≡ get_or b j 0 ∷ r
    next j h p = drop-cons b j 0 (omega (arith, ltb-true j 8 h, e)) ∙ ap (λ (l : List ℕ). get_or b j 0 ∷ l) p

    none : drop 8 b ≡ []
    none = ap (λ (n : ℕ). drop n b) (sym e) ∙ drop-length b

passed : {P : Type 0} (t : Bool) (r : Reading) → (t ≡ true → P) → (cond t r (Err malformed) ≡ Err malformed) ⊎ P
passed true r f = inr (f refl)
passed false r f = inl refl

module _ (b : List ℕ) where
  abbrev at : ℕ → ℕ
  at i = get_or b i 0

  abbrev from : ℕ
  from = from_digits (at 2) (at 3)

  abbrev to : ℕ
  to = from_digits (at 5) (at 6)

  -- bytes that pass every test are a record
  fits : (eqb (length b) 8 && rest_fits at) ≡ true → IsRecord b (at 0) from to
  fits e =
      let p = (and-eq-true_iff (eqb (length b) 8) _).0 e in
      let p₁ = (and-eq-true_iff (eqb (at 1) 32) _).0 p.1 in
      let p₄ = (and-eq-true_iff (eqb (at 4) 32) _).0 p₁.1 in
      let p₇ = (and-eq-true_iff (eqb (at 7) 10) _).0 p₄.1 in
      let d = (and-eq-true_iff (are_digits (at 2) (at 3)) _).0 p₇.1 in
      let x = from_digits_back (at 2) (at 3) d.0 in
      let y = from_digits_back (at 5) (at 6) d.1 in
      let bytes = eight b (eqb-true (length b) 8 p.0) in
      let e₁ = eqb-true (at 1) 32 p₁.0 in
      let e₄ = eqb-true (at 4) 32 p₄.0 in
      let e₇ = eqb-true (at 7) 10 p₇.0 in
      (x.0, y.0, bytes ∙ rw (e₁, e₄, e₇, x.1, x.2, y.1, y.2) refl)

  -- what says a record is the record of some letter and numbers
  formed : (decoded b ≡ Err malformed) ⊎ ((c : ℕ) × (u : ℕ) × (v : ℕ) × IsRecord b c u v)
  unfolding decoded
  formed = passed (eqb (length b) 8 && rest_fits at) (said at) (λ e. (at 0, from, to, fits e))

-- ---- what some bytes say

-- a record begins with its letter
says_encoded : (c u v : ℕ) → u < 100 → v < 100 → Says (encoded c u v) (by_letter c u v)
says_encoded c u v hu hv =
    elim (ℕ_discrete c insert_letter) [
      | yes e ↦ rw e (hu, hv, refl)
      | no d ↦ elim (ℕ_discrete c delete_letter) [
        | yes e ↦ rw e (hu, hv, refl)
        | no d' ↦ rw (ne_eqb c insert_letter d, ne_eqb c delete_letter d') (λ f. ⊎_elim (λ w. d (letter w)) (λ w. d' (letter w)) f.2)
      ]
    ]
  where
    letter : {c' u' v' : ℕ} → IsRecord (encoded c u v) c' u' v' → c ≡ c'
    letter w = (encoded_injective c u v _ _ _ w.2).0

module _ (b : List ℕ) where
  record_decoded : (c u v : ℕ) → IsRecord b c u v → decoded b ≡ by_letter c u v
  record_decoded c u v h = ap decoded h.2 ∙ decoded_encoded c u v h.0 h.1

  not_formed : decoded b ≡ Err malformed → ¬ (OfForm b)
  not_formed e f = ⊎_elim (λ w. differs refl (record_decoded insert_letter _ _ w)) (λ w. differs refl (record_decoded delete_letter _ _ w)) f.2
    where
      differs : {r : Reading} → record_number r ≡ 0 → decoded b ≡ r → ⊥
      differs z p = omega (arith, z, ap record_number (sym p ∙ e))

  pub decoded_says : Says b (decoded b)
  decoded_says =
      ⊎_elim
      (λ (e : decoded b ≡ Err malformed). rw e (not_formed e))
      (λ w. let h = w.3 in rw (record_decoded _ _ _ h) (rw h.2 (says_encoded w.0 w.1 w.2 h.0 h.1)))
      (formed b)

  -- what is not of the form says that it is malformed
  says_malformed : (r : Reading) → Says b r → ¬ (OfForm b) → r ≡ Err malformed
  says_malformed (Ok (Insert u v)) h n = absurd (n (u, v, inl h))
  says_malformed (Ok (Delete u v)) h n = absurd (n (u, v, inr h))
  says_malformed (Err e) h n = refl

  says_decoded : (r : Reading) → Says b r → decoded b ≡ r
  says_decoded (Ok (Insert u v)) h = record_decoded insert_letter u v h
  says_decoded (Ok (Delete u v)) h = record_decoded delete_letter u v h
  says_decoded (Err e) h = says_malformed (decoded b) decoded_says h

  pub says_only : (r r' : Reading) → Says b r → Says b r' → r ≡ r'
  says_only r r' h h' = sym (says_decoded r h) ∙ says_decoded r' h'

  -- the bytes are read to say r if and only if they say it: a record what was written, and all else malformed
  pub decoded_iff : (r : Reading) → (decoded b ≡ r) ↔ Says b r
  decoded_iff r = (λ e. subst (Says b) e decoded_says, says_decoded r)

  pub malformed_iff : (decoded b ≡ Err malformed) ↔ (¬ (OfForm b))
  malformed_iff = decoded_iff (Err malformed)

  -- refusal 14, in both directions
  pub number_iff : (record_number (decoded b) ≡ 14) ↔ (¬ (OfForm b))
  number_iff = (λ e. not_formed (is_malformed (decoded b) e), λ n. ap record_number (malformed_iff.1 n))
    where
      is_malformed : (r : Reading) → record_number r ≡ 14 → r ≡ Err malformed
      is_malformed (Ok (Insert u v)) e = absurd (omega (arith, e))
      is_malformed (Ok (Delete u v)) e = absurd (omega (arith, e))
      is_malformed (Err x) e = refl
