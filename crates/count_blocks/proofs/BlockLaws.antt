-- The laws of counts by blocks of columns: the block that the recurrence gives, what may be left out of its sums, and blocks written and
-- compared. Assumes nothing.
use Rattle.std.proofs.Common.{◌≡◌, ℕ, ◌+◌, ◌-◌, ◌*◌, ◌%◌, ◌^◌, ◌<◌, ◌≤◌, Bool, true, false, below_more, ◌⊎◌, List, length, get_or, set, replicate, sym, refl, ap, ◌∙◌, subst, inl, inr, mod-eq_of_lt, mul-zero, zero-mul, arith, length-set, get_or-set_other, get_or-set_same, pow_pos}
use native.Mathlib.Nat.{pow-le-pow_right}
use native.Mathlib.Decide.{ℕ_discrete}
use lib.Bits.{bit_and}
use lib.ListN.{length-replicate, get_or-replicate}
use Rattle.sums.specs.Sum.{sum, delta}
use Rattle.sums.specs.Modulo.{Congruent}
use Rattle.sums.proofs.ModuloLaws.{congruent_add, congruent_cancel}
use Rattle.sums.proofs.SumLaws.{delta_refl, delta_diff, sum_cong}
use Rattle.word.specs.Bit.{bit, with_bit}
use Rattle.word.specs.Wrap.{minus}
use Rattle.word.proofs.BitLaws.{bit_cases, bit_set_same, bit_set_other, bit_above_zero}
use Rattle.word.proofs.MaskLaws.{bit_of_and, bit_not, bit_low}
use Rattle.word.proofs.WrapLaws.{minus_lt, minus_add, minus_congruent}
use Rattle.word.specs.Combine.{Wraps}
use Rattle.word.proofs.CountLaws.{sum_no_bits}
use Rattle.answer.specs.Table.{Reflects}
use Rattle.sheet_theory.specs.Layout.{Shape, row_at, count_at, edge_at}
use Rattle.sheet.specs.Fill.{over}
use Rattle.sheet.specs.Internal.{CountsFrom, combined, SumsBy, with_counts}
use Rattle.sheet_theory.specs.Internal.{successors_sum}
use Rattle.answer.proofs.TableLaws.{reflects_iff, reflects_false, reflects_true, reflects_none}
use Rattle.sheet.proofs.WordsLaws.{combined_long, combined_at, counts_written, counts_as, counts_in, counts_stay}
use Rattle.sheet_theory.proofs.LayoutLaws.{from_within, rows_within}
use Rattle.vertex_counts.specs.Internal.{SameWords, ColumnsFilled}
use Rattle.order.specs.Internal.{vertex_at, Ordered}
use Rattle.count_blocks.specs.Internal.{UnitWords, OwnBy, count_by_mask, BlockCounted, PartHolds, BlockHolds, HasColumns, Led}
use Rattle.vertex_counts.proofs.FilledLaws.{Filled, filled_more, filled_all, same_ordered}

-- ---- the path from a vertex to itself

pub unit_made : UnitWords (set (replicate 32 0) 16 1)
unit_made = record {
  long = length-set {A = ℕ} (replicate 32 0) 16 1 ∙ length-replicate {A = ℕ} 32 0;
  one = λ k h.
      elim (ℕ_discrete k 16) [
        | yes e ↦ rw e (get_or-set_same (replicate 32 0) 16 1 0 (omega (arith, length-replicate {A = ℕ} 32 0)) ∙ sym (delta_refl 16))
        | no d ↦ get_or-set_other (replicate 32 0) 16 k 1 0 d ∙ get_or-replicate {A = ℕ} 32 k 0 0 h ∙ sym (delta_diff k 16 d)
      ];
}

module _ (op : ℕ → ℕ → ℕ) (i c : ℕ) (t : List ℕ) (long : length t ≡ 16) (fits : (j : ℕ) → get_or t j 0 < 2 ^ 64) where
  pub own_out : Wraps op → (i < c) ⊎ (c + 16 ≤ i) → OwnBy op i c t t
  own_out wraps out = record {
    long = long;
    fits = fits;
    each = λ j h. rw (delta_diff i (c + j) (λ e. elim out [ inl q ↦ omega arith | inr q ↦ omega arith ])) (wraps.none (get_or t j 0) (fits j));
  }

  -- l is the window of u that has the 1 of its middle at the place p of i
  pub own_in : (u l r : List ℕ) (p : ℕ) → UnitWords u → i ≡ c + p → p < 16 → length l ≡ 16 → ((j : ℕ) → j < 16 → get_or l j 0 ≡ get_or u (16 - p + j) 0)
      → r ≡ combined op (length l) l t → OwnBy op i c t r
  own_in u l r p unit e high el window a = record {
    long = combined_long op _ l t r a ∙ long;
    fits = fits;
    each = λ j h. combined_at op _ l t r a j (omega (arith, el)) (omega arith) ∙ ap (op (get_or t j 0)) (window j h ∙ unit.one (16 - p + j) (omega arith) ∙ place j);
  }
    where
      place : (j : ℕ) → delta (16 - p + j) 16 ≡ delta i (c + j)
      place j =
          elim (ℕ_discrete i (c + j)) [
            | yes q ↦ let z : 16 - p + j ≡ 16 = omega arith in rw z (delta_refl 16 ∙ sym (rw q (delta_refl (c + j))))
            | no d ↦ delta_diff (16 - p + j) 16 (λ q. d (omega arith)) ∙ sym (delta_diff i (c + j) d)
          ]

-- ---- the block that the recurrence gives, and its columns

module _ (n : ℕ) (s : List ℕ) (i c mask : ℕ) where
  -- what holds of each column by its place in the block holds of each column
  by_place : (P : ℕ → Type 0) → ((j : ℕ) → j < 16 → P (c + j)) → (j : ℕ) → c ≤ j → j < c + 16 → P j
  by_place P h j low high = let e : c + (j - c) ≡ j = omega arith in subst P e (h (j - c) (omega arith))

  pub part_filled : (t u : List ℕ) (base : ℕ) → CountsFrom n i base → BlockCounted n s i c mask t
      → u ≡ over s (base + c) (λ (j : ℕ). get_or t j 0) (length t) → u ≡ with_counts n s i c 16 (λ (j : ℕ). count_by_mask n s i j mask)
  part_filled t u base at counted e =
      counts_written n s i c 16 _ u (base + c) _ (e ∙ ap (over s (base + c) _) counted.long) (ap (λ (b : ℕ). b + c) at.is) counted.counts

  -- nothing is left of a count exactly if it is what is taken off
  left_none : (a d S : ℕ) → a < 2 ^ 64 → minus (minus a d) S ≡ 0 → a ≡ (d + S) % 2 ^ 64
  left_none a d S h e =
      let m = minus a d in
      let p : Congruent (2 ^ 64) (0 + S) m = ap (λ x. (x + S) % 2 ^ 64) (sym e) ∙ minus_add m S in
      let q : Congruent (2 ^ 64) (m + d) a = minus_add a d in
      sym (ap (λ x. x % 2 ^ 64) (omega arith) ∙ congruent_add (2 ^ 64) (0 + S) d m d p refl ∙ q ∙ mod-eq_of_lt h)

  none_left : (a d S : ℕ) → a ≡ (d + S) % 2 ^ 64 → minus (minus a d) S ≡ 0
  none_left a d S e =
      let m = minus a d in
      let q : Congruent (2 ^ 64) (m + d) a = minus_add a d in
      sym (minus_congruent 0 m S (omega arith) (congruent_cancel (2 ^ 64) (0 + S) m d (omega (arith, q))))

  -- t has the stored counts
  module _ (t u w : List ℕ) (stored : (j : ℕ) → j < 16 → get_or t j 0 ≡ count_at n s i (c + j)) (own : OwnBy minus i c t u)
      (taken : SumsBy minus n s c 16 mask u w n) where
    -- what is left at place j
    left : (j : ℕ) → j < 16 → get_or w j 0 ≡ minus (minus (count_at n s i (c + j)) (delta i (c + j))) (sum n (λ b. bit mask b * count_at n s b (c + j)))
    left j h =
        let y : get_or u j 0 ≡ minus (count_at n s i (c + j)) (delta i (c + j))
        = own.each j h ∙ ap (λ (z : ℕ). minus z (delta i (c + j))) (stored j h) in
        taken.each j h (rw y (minus_lt _ _)) ∙ ap (λ (z : ℕ). minus z (sum n (λ b. bit mask b * count_at n s b (c + j)))) y

    pub part_same : (m : ℕ) (r : Bool) → m ≡ 16 → Reflects r (SameWords m w (replicate 16 0)) → Reflects r (PartHolds n s i c mask)
    part_same m r em same = record {
      holds = λ e. by_place (λ j. count_at n s i j ≡ count_by_mask n s i j mask)
          (λ j h. left_none _ _ _ (rw (stored j h) at (own.fits j)) (sym (left j h) ∙ same.holds e j (omega arith) ∙ get_or-replicate {A = ℕ} 16 j 0 0 h));
      shows = λ h. same.shows
          (λ j l. left j (omega arith) ∙ none_left _ _ _ (h (c + j) (omega arith) (omega arith)) ∙ sym (get_or-replicate {A = ℕ} 16 j 0 0 (omega arith)));
    }

-- ---- the vertices that lead to a column of the block

-- the bits below c + 16, without those below c
pub block_columns : (c x y : ℕ) → c + 16 ≤ 64 → x ≡ 2 ^ (c + 16) - 1 → y ≡ 2 ^ c - 1 → HasColumns c (bit_and x ((2 ^ 64 - 1) - y))
block_columns c x y h ex ey k low high =
    let small : y < 2 ^ c = rw ey (omega (arith, pow_pos c)) in
    let up : c ≤ 64 = omega arith in
    let rest = bit_not 64 y k (omega (arith, small, pow-le-pow_right {n = 2} (omega arith) up)) (omega arith) in
    let one : bit x k ≡ 1 = rw ex (bit_low (c + 16) k high) in
    rw (bit_of_and x ((2 ^ 64 - 1) - y) k, one) (omega (arith, rest, bit_above_zero y c k small low))

pub led_set : (i leading mask r : ℕ) → r ≡ with_bit leading i → Led i leading mask r
led_set i leading mask r e =
    rw e
    record {
      other = λ k d. bit_set_other leading i k d;
      out = λ z. absurd (omega (arith, z, bit_set_same leading i));
    }

pub led_same : (i leading mask : ℕ) → mask ≡ 0 → Led i leading mask leading
led_same i leading mask z = record { other = λ k d. refl; out = λ e. (z, e) }

-- the columns are among the leading, and the counts to them are 0 from those of the first k vertices that are not
pub record Unled (n : ℕ) (t : List ℕ) (v : ℕ → ℕ) (c k leading : ℕ) : Type 0 where
  pub columns : HasColumns c leading
  pub none : (m : ℕ) → m < k → bit leading (v m) ≡ 0 → (j : ℕ) → c ≤ j → j < c + 16 → count_at n t (v m) j ≡ 0

columns_led : (i c leading mask r : ℕ) → HasColumns c leading → Led i leading mask r → HasColumns c r
columns_led i c leading mask r was led k low high =
    elim (ℕ_discrete k i) [
      | yes e ↦ elim (bit_cases r i) [ inl z ↦ absurd (omega (arith, (led.out z).1, rw e at (was k low high))) | inr o ↦ rw e o ]
      | no d ↦ led.other k d ∙ was k low high
    ]

-- a vertex that leads nowhere by the mask and is not j
none_by : (n : ℕ) (s : List ℕ) (i j mask : ℕ) → mask ≡ 0 → (i ≡ j → ⊥) → count_by_mask n s i j mask ≡ 0
none_by n s i j mask z d = rw z (omega (arith, delta_diff i j d, sum_no_bits n (λ b. count_at n s b j)))

pub unled_more : (n : ℕ) (t u : List ℕ) (v : ℕ → ℕ) (c k leading mask r : ℕ) → Unled n t v c k leading → Led (v k) leading mask r
    → ((j : ℕ) → c ≤ j → j < c + 16 → count_at n u (v k) j ≡ count_by_mask n t (v k) j mask)
    → ((i j : ℕ) → (i ≡ v k → ⊥) → c ≤ j → j < c + 16 → count_at n u i j ≡ count_at n t i j) → Unled n u v c (k + 1) r
unled_more n t u v c k leading mask r was led here other = record {
  columns = columns_led (v k) c leading mask r was.columns led;
  none = λ m h z j low high.
      elim (ℕ_discrete (v m) (v k)) [
        | yes e ↦
            let o = led.out (rw e at z) in
            rw e (here j low high ∙ none_by n t (v k) j mask o.0 (λ q. omega (arith, o.1, rw (← q) at (was.columns j low high))))
        | no d ↦ elim (ℕ_discrete m k) [
          | yes e ↦ absurd (d (ap v e))
          | no q ↦ other (v m) j d low high ∙ was.none m (omega (arith, q)) (sym (led.other (v m) d) ∙ z) j low high
        ]
      ];
}

-- a successor that is not among the leading may be left out of the sum
pub led_sum : (n : ℕ) (t l : List ℕ) (c k leading mask : ℕ) → mask ≡ bit_and (row_at t (vertex_at l k)) leading → Ordered n t l → k < n
    → Unled n t (vertex_at l) c k leading
    → (j : ℕ) → c ≤ j → j < c + 16 → count_by_mask n t (vertex_at l k) j mask ≡ successors_sum n t (vertex_at l k) j
unfolding successors_sum
led_sum n t l c k leading mask em h hk un j low high =
    ap (λ (x : ℕ). count_by_mask n t i j x) em ∙ ap (λ (x : ℕ). (delta i j + x) % 2 ^ 64) (sum_cong n _ _ term)
  where
    i : ℕ
    i = vertex_at l k

    term : (b : ℕ) → b < n → bit (bit_and (row_at t i) leading) b * count_at n t b j ≡ edge_at t i b * count_at n t b j
    term b hb =
        elim (bit_cases (row_at t i) b) [
          | inl e ↦ rw (bit_of_and (row_at t i) leading b, e, zero-mul) refl
          | inr e ↦ elim (bit_cases leading b) [
            | inl z ↦
                let o = h.order.earlier k hk b hb (omega (arith, e)) in
                let none : count_at n t b j ≡ 0 = rw o.2 at (un.none o.0 o.1 (rw o.2 z) j low high) in
                rw (none, mul-zero, mul-zero) refl
            | inr z ↦ ap (λ (x : ℕ). x * count_at n t b j) (rw (bit_of_and (row_at t i) leading b, e, z) refl)
          ]
        ]

-- ---- the counts from one vertex more, written

-- t is s with the counts from the first k vertices of the order l to the columns worked out; those that are not among the leading have
-- none but 0
pub record Filling (n : ℕ) (s l : List ℕ) (c k leading : ℕ) (t : List ℕ) : Type 0 where
  pub filled : Filled n s (vertex_at l) c 16 k t
  pub led : Unled n t (vertex_at l) c k leading

module _ (n : ℕ) (s l : List ℕ) (h : Ordered n s l) (c : ℕ) (shape : Shape n s) (within : c + 16 ≤ n) (t : List ℕ) (k leading : ℕ)
    (f : Filling n s l c k leading t) where
  -- the next vertex has a row
  pub filling_row : k < length l → vertex_at l k < length t
  filling_row hk = omega (arith, h.order.vertex k (omega (arith, h.long)), f.filled.long, rows_within shape)

  pub filling_more : (v : List ℕ) (mask r : ℕ) → k < length l
      → v ≡ with_counts n t (vertex_at l k) c 16 (λ (j : ℕ). count_by_mask n t (vertex_at l k) j mask)
      → mask ≡ bit_and (row_at t (vertex_at l k)) leading → Led (vertex_at l k) leading mask r → Filling n s l c (k + 1) r v
  filling_more v mask r q p em led = let hk : k < n = omega (arith, h.long) in record {
    filled = filled_more n s l h shape c 16 within t v k hk f.filled
        (counts_as _ _ _ _ _ _ _ p _ (led_sum n t l c k leading mask em (same_ordered n s t f.filled.long f.filled.rows l h) hk f.led));
    led = unled_more n t v (vertex_at l) c k leading _ r f.led led
        (counts_in _ _ _ _ _ _ _ p
        (omega (arith, from_within n (vertex_at l k) (h.order.vertex k hk), f.filled.long, shape.long, within)))
        (λ a j d low high. counts_stay _ _ _ _ _ _ _ p within a j (omega (arith, within)) (λ e. absurd (d e)));
  }

  pub filling_all : length l ≤ k → ColumnsFilled n s c 16 t
  filling_all e = filled_all n s l h shape c 16 within t k f.filled e

-- ---- the counts of a block compared

-- the counts from vertex m of the order l to the columns satisfy the recurrence
abbrev VertexHolds : ℕ → List ℕ → List ℕ → ℕ → ℕ → Type 0
VertexHolds n s l c m = (j : ℕ) → c ≤ j → j < c + 16 → count_at n s (vertex_at l m) j ≡ successors_sum n s (vertex_at l m) j

-- those from the first k do; those that are not among the leading have none but 0
pub record Compared (n : ℕ) (s l : List ℕ) (c k leading : ℕ) : Type 0 where
  pub held : (m : ℕ) → m < k → VertexHolds n s l c m
  pub led : Unled n s (vertex_at l) c k leading

module _ (n : ℕ) (s l : List ℕ) (h : Ordered n s l) (c k leading : ℕ) (was : Compared n s l c k leading) where
  module _ (row mask : ℕ) (is : row ≡ row_at s (vertex_at l k)) (em : mask ≡ bit_and row leading) (t : Bool)
      (part : Reflects t (PartHolds n s (vertex_at l k) c mask)) (hk : k < n) where
    vertex_holds : Reflects t (VertexHolds n s l c k)
    vertex_holds =
        reflects_iff (λ f j low high. f j low high ∙ whole j low high) (λ f j low high. f j low high ∙ sym (whole j low high)) part
      where
        whole : (j : ℕ) → c ≤ j → j < c + 16 → count_by_mask n s (vertex_at l k) j mask ≡ successors_sum n s (vertex_at l k) j
        whole = led_sum n s l c k leading mask (em ∙ ap (λ (x : ℕ). bit_and x leading) is) h hk was.led

    pub compared_more : (r : ℕ) → t ≡ true → Led (vertex_at l k) leading mask r → Compared n s l c (k + 1) r
    compared_more r e led = record {
      held = below_more (VertexHolds n s l c) k was.held (vertex_holds.holds e);
      led = unled_more n s s (vertex_at l) c k leading _ r was.led led (part.holds e) (λ a j d low high. refl);
    }

    pub compared_not : t ≡ false → Reflects false (BlockHolds n s c)
    compared_not e = reflects_none (λ f. (reflects_false vertex_holds).0 e (f (vertex_at l k) (h.order.vertex k hk)))

  pub compared_all : length l ≤ k → Reflects true (BlockHolds n s c)
  compared_all e = reflects_true (λ i hi j low high. let o = h.all i hi in rw (← o.2) (was.held o.0 (omega (arith, h.long)) j low high))

-- ---- block after block

-- the counts to the columns below c satisfy the recurrence
abbrev pub Held : ℕ → List ℕ → ℕ → Type 0
Held n s c = (i j : ℕ) → i < n → j < n → j < c → count_at n s i j ≡ successors_sum n s i j

-- what is known as the counts of a block are compared
pub ruleset compared_laws = (compared_more, compared_not)
