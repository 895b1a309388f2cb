-- The laws of visiting the bits of a mask from the lowest up, each cleared once it is visited, and of terms added to a word, or taken off
-- it, at these bits. Assumes nothing.
use Rattle.std.proofs.Common.{◌≡◌, ℕ, zero, suc, ◌+◌, ◌-◌, ◌*◌, ◌%◌, ◌^◌, ◌<◌, ◌≤◌, sym, refl, ap, ◌∙◌, subst, le_refl, add-zero, one-mul, zero-add, zero-mul, arith}
use native.Mathlib.Decide.{dec_lt, ℕ_discrete}
use lib.Bits.{bit_and, mask_lt}
use Rattle.sums.specs.Sum.{sum}
use Rattle.word.specs.Bit.{bit, Lowest, LowestCleared}
use Rattle.word.specs.Wrap.{plus}
use Rattle.word.proofs.BitLaws.{bit_zero, bit_clear_same, bit_clear_other, clear_below}
use Rattle.word.proofs.MaskLaws.{bit_below}
use Rattle.word.specs.Combine.{Wraps, plus_wraps}

-- ---- where a visit stands

-- of the bits of the mask below n, rest has those from `next` on, and P holds of `next`: P k is what is known once the bits below k are
-- visited
pub record Visiting (n mask : ℕ) (P : ℕ → Type 0) (rest : ℕ) : Type 0 where
  pub next : ℕ
  pub high : next ≤ n
  pub below : rest < 2 ^ n
  pub gone : (k : ℕ) → k < next → bit rest k ≡ 0
  pub left : (k : ℕ) → next ≤ k → k < n → bit rest k ≡ bit mask k
  pub known : P next

-- what is known stays known past a number that is not in the mask
abbrev pub Passes : ℕ → ℕ → (ℕ → Type 0) → Type 0
Passes n mask P = (k : ℕ) → k < n → bit mask k ≡ 0 → P k → P (suc k)

module _ (n mask : ℕ) (P : ℕ → Type 0) where
  starts : (rest : ℕ) → rest < 2 ^ n → ((k : ℕ) → k < n → bit rest k ≡ bit mask k) → P 0 → Visiting n mask P rest
  starts rest h e p = record { next = 0; high = omega arith; below = h; gone = λ k l. absurd (omega arith); left = λ k l q. e k q; known = p }

  pub visiting_start : mask < 2 ^ n → P 0 → Visiting n mask P mask
  visiting_start h p = starts mask h (λ k l. refl) p

  -- where the mask may have bits at n or above
  pub visiting_low : (y rest : ℕ) → y ≡ 2 ^ n - 1 → rest ≡ bit_and mask y → P 0 → Visiting n mask P rest
  visiting_low y rest ey er p = rw (er, ey) (starts (bit_and mask (2 ^ n - 1)) (mask_lt mask n) (bit_below mask n) p)

  module _ (passes : Passes n mask P) (rest : ℕ) (was : Visiting n mask P rest) where
    -- and past all of them up to the next that is
    skipped : (b : ℕ) → was.next ≤ b → b ≤ n → ((k : ℕ) → k < b → bit rest k ≡ 0) → P b
    skipped b l h z = let e : was.next + (b - was.next) ≡ b = omega arith in subst P e (far (b - was.next) (omega arith))
      where
        far : (d : ℕ) → was.next + d ≤ b → P (was.next + d)
        far zero q = rw (add-zero was.next) was.known
        far (suc d) q =
            let e : suc (was.next + d) ≡ was.next + suc d = omega arith in
            subst P e (passes (was.next + d) (omega arith) (sym (was.left _ (omega arith) (omega arith)) ∙ z _ (omega arith)) (far d (omega arith)))

    -- every bit is visited
    pub visiting_done : rest ≡ 0 → P n
    visiting_done e = skipped n was.high (le_refl n) (λ k l. ap (λ x. bit x k) e ∙ bit_zero k)

    module _ (b : ℕ) (low : Lowest rest b) where
      within : b < n
      within = low.below n was.below

      from : was.next ≤ b
      from = elim (dec_lt b was.next) [ yes h ↦ absurd (omega (arith, was.gone b h, low.set)) | no h ↦ omega arith ]

      -- the lowest bit of rest is the next one of the mask
      pub visiting_here : (b < n) × (bit mask b ≡ 1) × P b
      visiting_here = (within, sym (was.left b from within) ∙ low.set, skipped b from (omega (arith, within)) low.least)

      -- b is visited, which makes Q of what is known
      pub visiting_more : (Q : ℕ → Type 0) (r : ℕ) → LowestCleared rest r → (b < n → bit mask b ≡ 1 → P b → Q (suc b)) → Visiting n mask Q r
      visiting_more Q r e step =
          rw (e b low)
          record {
            next = suc b;
            high = within;
            below = clear_below n rest b was.below;
            gone = λ k l. elim (ℕ_discrete k b) [ yes q ↦ rw q (bit_clear_same rest b) | no d ↦ bit_clear_other rest b k d ∙ low.least k (omega arith) ];
            left = λ k l q. bit_clear_other rest b k (λ e. omega arith) ∙ was.left k (omega (arith, from)) q;
            known = step within visiting_here.1 visiting_here.2;
          }

-- ---- terms added to a word at the bits of a mask, or taken off it

module _ {op : ℕ → ℕ → ℕ} (wraps : Wraps op) (mask : ℕ) (f : ℕ → ℕ) (a : ℕ) where
  -- a with the terms at the bits of the mask below k
  abbrev terms : ℕ → ℕ
  terms k = op a (sum k (λ b. bit mask b * f b))

  pub terms_start : a < 2 ^ 64 → a ≡ terms 0
  unfolding sum
  terms_start h = wraps.none a h

  pub terms_pass : (n x : ℕ) → Passes n mask (λ k. x ≡ terms k)
  unfolding sum
  terms_pass n x k h e was = rw (e, zero-mul, add-zero) was

  pub terms_more : (k x y : ℕ) → bit mask k ≡ 1 → x ≡ terms k → y ≡ op x (f k) → y ≡ terms (suc k)
  unfolding sum
  terms_more k x y e was ey = rw (e, one-mul) (ey ∙ ap (λ z. op z (f k)) was ∙ wraps.twice a _ (f k))

-- x is the sum of the terms at the bits of the mask that are visited, modulo 2 ^ 64
abbrev pub Adding : ℕ → ℕ → ℕ → (ℕ → ℕ) → ℕ → Type 0
Adding n mask rest f x = Visiting n mask (λ k. x ≡ plus 0 (sum k (λ b. bit mask b * f b))) rest

module _ (n mask : ℕ) (f : ℕ → ℕ) where
  none : 0 ≡ plus 0 (sum 0 (λ b. bit mask b * f b))
  none = terms_start plus_wraps mask f 0 (omega arith)

  pub adding_start : mask < 2 ^ n → Adding n mask mask f 0
  adding_start h = visiting_start n mask _ h none

  pub adding_low : (y rest : ℕ) → y ≡ 2 ^ n - 1 → rest ≡ bit_and mask y → Adding n mask rest f 0
  adding_low y rest ey er = visiting_low n mask _ y rest ey er none

  pub adding_more : (rest x b y r : ℕ) → Adding n mask rest f x → Lowest rest b → y ≡ plus x (f b) → LowestCleared rest r → Adding n mask r f y
  adding_more rest x b y r was l e er =
      visiting_more n mask _ (terms_pass plus_wraps mask f 0 n x) rest was b l _ r er (λ q o p. terms_more plus_wraps mask f 0 b x y o p e)

  pub adding_done : (rest x : ℕ) → Adding n mask rest f x → rest ≡ 0 → x ≡ sum n (λ b. bit mask b * f b) % 2 ^ 64
  adding_done rest x was e = visiting_done n mask _ (terms_pass plus_wraps mask f 0 n x) rest was e ∙ ap (λ z. z % 2 ^ 64) (zero-add _)
