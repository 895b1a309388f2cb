-- The laws of lists of which a run of places is overwritten. Assumes nothing.
use mathlib.Core.Path.{◌≡◌, refl, sym, ap, ap₂, subst, ◌∙◌}
use mathlib.Core.Logic.{◌⊎◌, inl, inr, ⊎_elim}
use mathlib.Core.List.{List}
use Prim.Native.Nat.{ℕ, zero, suc, ◌+◌, ◌-◌, ◌≤◌, ◌<◌}
use native.Mathlib.Nat.{not-suc-le-zero, zero-add}
use native.Mathlib.Decide.{ℕ_discrete, dec_lt}
use native.Mathlib.Numerals.{add-one}
use native.Mathlib.Omega.{arith}
use lib.ListN.{length, get_or, set, length-set}
use lib.Seq.{get_or-set_same, get_or-set_other, ext_get_or}
use Rattle.sheet.specs.Fill.{puts, over}

module _ (l : List ℕ) (p f : ℕ → ℕ) where
  pub length_puts : (m : ℕ) → length (puts l p f m) ≡ length l
  unfolding puts
  length_puts zero = refl
  length_puts (suc m) = length-set (puts l p f m) (p m) (f m) ∙ length_puts m

  -- a place that is not stored to is as it was
  pub puts_out : (m k : ℕ) → ((j : ℕ) → j < m → k ≡ p j → ⊥) → get_or (puts l p f m) k 0 ≡ get_or l k 0
  unfolding puts
  puts_out zero k h = refl
  puts_out (suc m) k h = get_or-set_other (puts l p f m) (p m) k (f m) 0 (λ e. h m (omega arith) e) ∙ puts_out m k (λ j q. h j (omega arith))

  -- a place that is stored to once
  pub puts_in : (m j : ℕ) → j < m → p j < length l → ((i : ℕ) → i < m → j < i → p j ≡ p i → ⊥) → get_or (puts l p f m) (p j) 0 ≡ f j
  unfolding puts
  puts_in zero j q b h = absurd (not-suc-le-zero q)
  puts_in (suc m) j q b h =
      elim (ℕ_discrete j m) [
        | yes e ↦ rw e (get_or-set_same (puts l p f m) (p m) (f m) 0 (omega (arith, length_puts m, ap p e)))
        | no d ↦ get_or-set_other (puts l p f m) (p m) (p j) (f m) 0 (λ e. h m (omega arith) (omega (arith, d)) e) ∙ puts_in m j (omega (arith, d)) b (λ i x. h i (omega arith))
      ]

  pub puts_none : l ≡ puts l p f 0
  unfolding puts
  puts_none = refl

  -- one store more, as a loop's turn makes it (m + 1 is the code's), and the end of the loop
  pub puts_more : (w : List ℕ) (m k v : ℕ) → w ≡ puts l p f m → k ≡ p m → v ≡ f m → set w k v ≡ puts l p f (m + 1)
  unfolding puts
  puts_more w m k v ew ek ev =
      ap (λ (x : List ℕ). set x k v) ew ∙ ap₂ (λ (x y : ℕ). set (puts l p f m) x y) ek ev ∙ ap (λ (x : ℕ). puts l p f x) (sym (add-one m))

  pub puts_done : (w : List ℕ) (m n : ℕ) → w ≡ puts l p f m → m ≡ n → w ≡ puts l p f n
  puts_done w m n ew e = ew ∙ ap (λ (x : ℕ). puts l p f x) e

-- one store more, where what is stored is made of the word that is there
pub puts_change : (l : List ℕ) (p : ℕ → ℕ) (g : ℕ → ℕ → ℕ) (w : List ℕ) (m k v : ℕ) → w ≡ puts l p (λ j. g j (get_or l (p j) 0)) m → k ≡ p m
    → ((j : ℕ) → j < m → p m ≡ p j → ⊥) → v ≡ g m (get_or w k 0) → set w k v ≡ puts l p (λ j. g j (get_or l (p j) 0)) (m + 1)
puts_change l p g w m k v ew ek d ev =
    puts_more l p _ w m k v ew ek (ev ∙ ap (g m) (ap₂ (λ (x : List ℕ) (y : ℕ). get_or x y 0) ew ek ∙ puts_out l p _ m (p m) d))

-- what is stored counts at its m places alone
pub puts_cong : (l : List ℕ) (p f g : ℕ → ℕ) (m : ℕ) → ((j : ℕ) → j < m → f j ≡ g j) → puts l p f m ≡ puts l p g m
unfolding puts
puts_cong l p f g zero h = refl
puts_cong l p f g (suc m) h = ap₂ (λ (x : List ℕ) (y : ℕ). set x (p m) y) (puts_cong l p f g m (λ j q. h j (omega arith))) (h m (omega arith))

pub over_in : (l : List ℕ) (b : ℕ) (f : ℕ → ℕ) (m j : ℕ) → b + m ≤ length l → j < m → get_or (over l b f m) (b + j) 0 ≡ f j
over_in l b f m j h q = puts_in l (λ k. b + k) f m j q (omega arith) (λ i x y e. omega arith)

-- the same from the first word on
pub over_front : (l w : List ℕ) (f : ℕ → ℕ) (m j : ℕ) → w ≡ over l 0 f m → m ≤ length l → j < m → get_or w j 0 ≡ f j
over_front l w f m j e h q = ap₂ (λ (x : List ℕ) (k : ℕ). get_or x k 0) e (sym (zero-add j)) ∙ over_in l 0 f m j (omega arith) q

pub over_out : (l : List ℕ) (b : ℕ) (f : ℕ → ℕ) (m k : ℕ) → (k < b) ⊎ (b + m ≤ k) → get_or (over l b f m) k 0 ≡ get_or l k 0
over_out l b f m k h = puts_out l (λ j. b + j) f m k (λ j q e. ⊎_elim (λ r. omega arith) (λ r. omega arith) h)

-- they are known by their words
pub over_only : (l t : List ℕ) (b : ℕ) (f : ℕ → ℕ) (m : ℕ) → b + m ≤ length l → length t ≡ length l
    → ((j : ℕ) → j < m → get_or t (b + j) 0 ≡ f j) → ((k : ℕ) → (k < b) ⊎ (b + m ≤ k) → get_or t k 0 ≡ get_or l k 0) → t ≡ over l b f m
over_only l t b f m h long inside outside = ext_get_or 0 t (over l b f m) (long ∙ sym (length_puts l (λ j. b + j) f m)) at
  where
    at : (k : ℕ) → k < length t → get_or t k 0 ≡ get_or (over l b f m) k 0
    at k q =
        elim (dec_lt k b) [
          | yes p ↦ outside k (inl p) ∙ sym (over_out l b f m k (inl p))
          | no p ↦ elim (dec_lt k (b + m)) [
            | no o ↦ outside k (inr (omega arith)) ∙ sym (over_out l b f m k (inr (omega arith)))
            | yes o ↦
                let p' : b + (k - b) ≡ k = omega arith in
                subst (λ (x : ℕ). get_or t x 0 ≡ get_or (over l b f m) x 0) p' (inside (k - b) (omega arith) ∙ sym (over_in l b f m (k - b) h (omega arith)))
          ]
        ]

-- stored over what was stored
pub over_over : (l : List ℕ) (b : ℕ) (f g : ℕ → ℕ) (m : ℕ) → b + m ≤ length l → over (over l b f m) b g m ≡ over l b g m
over_over l b f g m h =
    let long = length_puts l (λ j. b + j) f m in
    over_only l _ b g m h (length_puts _ (λ j. b + j) g m ∙ long)
    (λ j q. over_in (over l b f m) b g m j (omega arith) q) (λ k q. over_out (over l b f m) b g m k q ∙ over_out l b f m k q)
