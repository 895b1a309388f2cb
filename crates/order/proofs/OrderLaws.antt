-- Taking away vertices: what is known of those taken away, of those left and of the stack stays known; where none is left there is no
-- cycle. Assumes nothing.
use Rattle.std.proofs.Common.{◌≡◌, Some, inl, inr, List, [], ◌∷◌, ◌++◌, ℕ, ◌+◌, ◌-◌, ◌^◌, ◌≤◌, ◌<◌, length, sym, ap, ◌∙◌, arith}
use native.Mathlib.Decide.{ℕ_discrete}
use lib.Pow.{pow_pos}
use Rattle.std.proofs.lemmas.List.{length_push}
use Rattle.word.specs.Bit.{bit, without_bit, bit_count}
use Rattle.word.proofs.BitLaws.{bit_cases, bit_clear_other, clear_below, clear_lt, bit_one_lt, bit_zero}
use Rattle.word.proofs.MaskLaws.{and_zero, bit_low}
use Rattle.word.proofs.CountLaws.{bit_count_clear, bit_count_pos, bit_count_low}
use Rattle.graph.specs.Graph.{Edge, Acyclic}
use Rattle.graph.proofs.Peeling.{order_acyclic}
use Rattle.sheet_theory.specs.Layout.{row_at, edge_at}
use Rattle.sheet_theory.specs.Internal.{RowsBelow}
use Rattle.order.specs.Internal.{vertex_at, Peeled, NoneAhead, Stack, Descended, Ordered}
use Rattle.order.proofs.StackLaws.{vertex_new, vertex_old, stack_none, stack_less}

module _ (n : ℕ) (s : List ℕ) (high : n ≤ 64) where
  -- ---- a vertex is taken away

  module _ (left : ℕ) (l : List ℕ) (h : Peeled n s left l) (i : ℕ) (hi : i < n) (b : bit left i ≡ 1) (free : NoneAhead s left i) where
    entry_vertex : (m : ℕ) → m < length l + 1 → vertex_at (l ++ i ∷ []) m < n
    entry_vertex m q =
        elim (ℕ_discrete m (length l)) [
          | yes e ↦ rw (e, vertex_new l i) hi
          | no d ↦ rw (vertex_old l i m (omega arith)) (h.order.vertex m (omega arith))
        ]

    entry_earlier : (m : ℕ) → m < length l + 1 → (a : ℕ) → a < n → Edge n (edge_at s) (vertex_at (l ++ i ∷ []) m) a
        → (k : ℕ) × (k < m) × (vertex_at (l ++ i ∷ []) k ≡ a)
    entry_earlier m q a ha e =
        elim (ℕ_discrete m (length l)) [
          | yes z ↦
              let one : bit (row_at s i) a ≡ 1 = elim (bit_cases (row_at s i) a) [ inl o ↦ absurd (omega (arith, rw (z, vertex_new l i) at e)) | inr o ↦ o ] in
              let r = h.taken a ha (and_zero (row_at s i) left free a one) in
              (r.0, omega arith, vertex_old l i r.0 r.1 ∙ r.2)
          | no d ↦
              let r = h.order.earlier m (omega arith) a ha (rw (vertex_old l i m (omega arith)) at e) in
              (r.0, r.1, vertex_old l i r.0 (omega arith) ∙ r.2)
        ]

    entry_taken : (k : ℕ) → k < n → bit (without_bit left i) k ≡ 0 → (m : ℕ) × (m < length l + 1) × (vertex_at (l ++ i ∷ []) m ≡ k)
    entry_taken k hk z =
        elim (ℕ_discrete k i) [
          | yes e ↦ (length l, omega arith, vertex_new l i ∙ sym e)
          | no d ↦ let r = h.taken k hk (sym (bit_clear_other left i k d) ∙ z) in (r.0, omega arith, vertex_old l i r.0 r.1 ∙ r.2)
        ]

    peeled_more : Peeled n s (without_bit left i) (l ++ i ∷ [])
    peeled_more = record {
      below = clear_below n left i h.below;
      total = omega (arith, bit_count_clear left i (omega arith), b, h.total, length_push l i);
      order = record {
        vertex = λ m q. entry_vertex m (omega (arith, length_push l i));
        earlier = λ m q. entry_earlier m (omega (arith, length_push l i));
      };
      taken = λ k hk z. let r = entry_taken k hk z in (r.0, omega (arith, r.1, length_push l i), r.2);
    }

  -- ---- the last vertex of a stack that no vertex makes longer is taken away

  module _ (left : ℕ) (l : List ℕ) (h : Peeled n s left l) (t : List ℕ) (v : ℕ) (down : Descended n s left (Some v) t) where
    last_left : bit left v ≡ 1
    last_left = rw (vertex_new t v) at (down.0.held (length t) (omega (arith, length_push t v)))

    pub last_vertex : v < n
    last_vertex = bit_one_lt n left v h.below last_left

    -- while a vertex is left, fewer than n have been taken away
    pub last_room : length l < n
    last_room = omega (arith, h.total, bit_count_pos left v last_left (omega (arith, last_vertex)))

    pub taken_less : without_bit left v < left
    taken_less = clear_lt left v last_left

    module _ (r : ℕ) (er : r ≡ without_bit left v) where
      pub taken_peeled : (m : List ℕ) → m ≡ l ++ v ∷ [] → Peeled n s r m
      taken_peeled m em = rw (er, em) (peeled_more left l h v last_vertex last_left down.1)

      pub taken_stack : Stack n s r t
      taken_stack = rw er (stack_less n s left h.below t v down.0 down.1)

  -- ---- vertices are taken away as long as one is left

  -- at the start all are left
  pub peeled_start : (left : ℕ) (l : List ℕ) → left ≡ 2 ^ n - 1 → l ≡ [] → Peeled n s left l
  peeled_start left l el none = rw none record {
    below = rw el (omega (arith, pow_pos n));
    total = rw el (omega (arith, bit_count_low n high));
    order = record { vertex = λ m q. absurd (omega arith); earlier = λ m q. absurd (omega arith) };
    taken = λ i hi z. absurd (omega (arith, bit_low n i hi, rw el at z));
  }

  -- where none is left, all have been taken away
  pub order_complete : (left : ℕ) (l : List ℕ) → RowsBelow n s → Peeled n s left l → left ≡ 0 → Ordered n s l
  order_complete left l below h z =
      let long : length l ≡ n = omega (arith, h.total, ap bit_count z ∙ bit_count_low 0 (omega arith)) in
      record {
        below = below;
        long = long;
        order = rw long at h.order;
        all = λ i hi. let r = h.taken i hi (ap (λ (x : ℕ). bit x i) z ∙ bit_zero i) in (r.0, omega arith, r.2);
      }

pub ordered_acyclic : (n : ℕ) (s l : List ℕ) → Ordered n s l → Acyclic n (edge_at s)
ordered_acyclic n s l o = order_acyclic n (edge_at s) n (vertex_at l) o.order o.all

-- what is known as vertices are taken away
pub ruleset order_laws = (stack_none, peeled_start, last_vertex, last_room, taken_peeled, taken_stack, taken_less, order_complete)
