-- The stack of the search: vertices that are left, each with an edge to the next. It grows by a vertex ahead of it, and loses its last
-- vertex when that one is taken away; if it would grow past n vertices there is a cycle. Assumes nothing.
use Rattle.std.proofs.Common.{◌≡◌, Option, Some, None, inl, inr, List, [], ◌∷◌, ◌++◌, ℕ, ◌+◌, ◌-◌, ◌^◌, ◌<◌, length, refl, sym, ◌∙◌, arith}
use native.Mathlib.Decide.{ℕ_discrete}
use lib.Bits.{bit_and}
use Rattle.std.specs.Option.{option_to_list}
use Rattle.std.specs.List.{slice_get}
use Rattle.std.proofs.lemmas.Option.{none-some, slice_get_within, slice_get-get_or, get_or_from_slice_get}
use Rattle.std.proofs.lemmas.List.{length_push, get_or_push, get_or_append_left}
use Rattle.word.specs.Bit.{bit, without_bit}
use Rattle.word.proofs.BitLaws.{bit_cases, bit_clear_other, bit_one_lt, bit_beyond}
use Rattle.word.proofs.MaskLaws.{and_zero, and_both}
use Rattle.graph.specs.Graph.{Edge, Cycle}
use Rattle.graph.proofs.Peeling.{walk_cycle}
use Rattle.sheet_theory.specs.Layout.{row_at, edge_at}
use Rattle.order.specs.Internal.{vertex_at, NoneAhead, Stack, Ahead, Descended}

pub stack_none : (n : ℕ) (s : List ℕ) (left : ℕ) (l : List ℕ) → l ≡ [] → Stack n s left l
stack_none n s left l e = rw e record { short = omega arith; held = λ k q. absurd (omega arith); edges = λ k q. absurd (omega arith) }

-- ---- a vertex comes after a list of them

module _ (l : List ℕ) (v : ℕ) where
  pub vertex_new : vertex_at (l ++ v ∷ []) (length l) ≡ v
  vertex_new = get_or_push l v 0 (length l) refl

  pub vertex_old : (k : ℕ) → k < length l → vertex_at (l ++ v ∷ []) k ≡ vertex_at l k
  vertex_old k q = get_or_append_left l (v ∷ []) 0 k q

-- ---- what is ahead of a stack

pub ahead_first : (s : List ℕ) (left : ℕ) (l : List ℕ) → length l ≡ 0 → Ahead s left l left
ahead_first s left l z = record { first = λ _. refl; later = λ k e. absurd (omega arith) }

module _ (l : List ℕ) where
  -- v is the last of the list
  last_at : (v : ℕ) → Some v ≡ slice_get l (length l - 1) → v ≡ vertex_at l (length l - 1)
  last_at v e = sym (get_or_from_slice_get l (length l - 1) v 0 (sym e))

  some_last : (v : ℕ) → Some v ≡ slice_get l (length l - 1) → 0 < length l
  some_last v e = omega (arith, slice_get_within l (length l - 1) v (sym e))

  -- the list has no last
  pub none_last : None ≡ slice_get l (length l - 1) → length l ≡ 0
  none_last e =
      elim (ℕ_discrete (length l) 0) [
        | yes z ↦ z
        | no d ↦ absurd (none-some _ (e ∙ slice_get-get_or l (length l - 1) 0 (omega arith)))
      ]

  pub ahead_later : (s : List ℕ) (left v : ℕ) → Some v ≡ slice_get l (length l - 1) → Ahead s left l (bit_and (row_at s v) left)
  ahead_later s left v ev = record {
    first = λ e. absurd (omega (arith, some_last v ev));
    later = λ k e. let q : length l - 1 ≡ k = omega arith in rw (last_at v ev, q) refl;
  }

module _ (n : ℕ) (s : List ℕ) (left : ℕ) (l : List ℕ) (next : ℕ) (a : Ahead s left l next) (v : ℕ) (h : bit next v ≡ 1) where
  ahead_edge : (k : ℕ) → length l ≡ k + 1 → Edge n (edge_at s) (vertex_at l k) v
  ahead_edge k e = omega (arith, (and_both (row_at s (vertex_at l k)) left v (rw (a.later k e) at h)).0)

  ahead_left : bit left v ≡ 1
  ahead_left =
      elim (ℕ_discrete (length l) 0) [
        | yes z ↦ rw (a.first z) at h
        | no z ↦ (and_both (row_at s (vertex_at l (length l - 1))) left v (rw (a.later (length l - 1) (omega arith)) at h)).1
      ]

module _ (n : ℕ) (s : List ℕ) (left : ℕ) (below : left < 2 ^ n) where
  -- the vertices of a stack are below n
  pub stack_vertex : (l : List ℕ) → Stack n s left l → (k : ℕ) → k < length l → vertex_at l k < n
  stack_vertex l t k q = bit_one_lt n left (vertex_at l k) below (t.held k q)

  pub last_below : (l : List ℕ) → Stack n s left l → (v : ℕ) → Some v ≡ slice_get l (length l - 1) → v < n
  last_below l t v e = rw (last_at l v e) (stack_vertex l t (length l - 1) (omega (arith, some_last l v e)))

  -- ---- a stack grows

  module _ (l : List ℕ) (next : ℕ) (t : Stack n s left l) (a : Ahead s left l next) where
    -- a stack of n vertices that could grow would have one of them twice
    pub stack_cycle : length l ≡ n → (next ≡ 0 → ⊥) → Cycle n (edge_at s)
    stack_cycle e z =
        let b = bit_beyond 0 next (omega (arith, z)) in
        walk_cycle n (edge_at s) (vertex_at l) b.0 (λ k q. t.edges k (omega arith)) (λ k q. stack_vertex l t k (omega arith))
        (bit_one_lt n left b.0 below (ahead_left n s left l next a b.0 b.2))
        (λ k q. ahead_edge n s left l next a b.0 b.2 k (omega arith))

    module _ (v : ℕ) (set-v : bit next v ≡ 1) where
      pub ahead_vertex : v < n
      ahead_vertex = bit_one_lt n left v below (ahead_left n s left l next a v set-v)

      grown_edge : (k : ℕ) → k + 1 < length l + 1 → Edge n (edge_at s) (vertex_at (l ++ v ∷ []) k) (vertex_at (l ++ v ∷ []) (k + 1))
      grown_edge k q =
          elim (ℕ_discrete (k + 1) (length l)) [
            | yes e ↦ rw (vertex_old l v k (omega arith), e, vertex_new l v) (ahead_edge n s left l next a v set-v k (sym e))
            | no z ↦ rw (vertex_old l v k (omega arith), vertex_old l v (k + 1) (omega arith)) (t.edges k (omega arith))
          ]

      pub stack_more : length l < n → Stack n s left (l ++ v ∷ [])
      stack_more room = record {
        short = omega (arith, length_push l v);
        held = λ k q. elim (ℕ_discrete k (length l)) [
          | yes e ↦ rw (e, vertex_new l v) (ahead_left n s left l next a v set-v)
          | no z ↦ rw (vertex_old l v k (omega (arith, length_push l v))) (t.held k (omega (arith, length_push l v)))
        ];
        edges = λ k q. grown_edge k (omega (arith, length_push l v));
      }

      pub ahead_more : Ahead s left (l ++ v ∷ []) (bit_and (row_at s v) left)
      ahead_more = record {
        first = λ e. absurd (omega (arith, length_push l v));
        later = λ k e. let z : k ≡ length l = omega (arith, length_push l v) in rw (z, vertex_new l v) refl;
      }

  -- ---- and ends: its last vertex is taken off

  pub descended : (l : List ℕ) (next : ℕ) → 0 < left → Stack n s left l → Ahead s left l next → next ≡ 0 → (o : Option ℕ) (m : List ℕ)
      → o ≡ slice_get l (length l - 1) → l ≡ m ++ option_to_list o → Descended n s left o m
  descended l next some t a z None m last e = absurd (omega (arith, a.first (none_last l last)))
  descended l next some t a z (Some v) m last e =
      (rw e at t, rw (e, vertex_new m v) at (sym (a.later (length m) (rw e (length_push m v)))) ∙ z)

  -- ---- and its last vertex is taken away: no other is that one, since from each other an edge leads to what is left

  pub stack_less : (l : List ℕ) (v : ℕ) → Stack n s left (l ++ v ∷ []) → NoneAhead s left v → Stack n s (without_bit left v) l
  stack_less l v t free = record {
    short = omega (arith, t.short, length_push l v);
    held = λ j q.
        bit_clear_other left v (vertex_at l j)
        (λ z. omega (arith, held-more (j + 1) (omega arith), and_zero (row_at s v) left free (vertex_at (l ++ v ∷ []) (j + 1)) (leads j q z)))
        ∙ rw (vertex_old l v j q) at (held-more j (omega arith));
    edges = λ j q. rw (vertex_old l v j (omega arith), vertex_old l v (j + 1) q) at (t.edges j (omega (arith, length_push l v)));
  } where
    held-more : (j : ℕ) → j < length l + 1 → bit left (vertex_at (l ++ v ∷ []) j) ≡ 1
    held-more j q = t.held j (omega (arith, length_push l v))

    leads : (j : ℕ) → j < length l → vertex_at l j ≡ v → bit (row_at s v) (vertex_at (l ++ v ∷ []) (j + 1)) ≡ 1
    leads j q z =
        elim (bit_cases (row_at s v) (vertex_at (l ++ v ∷ []) (j + 1))) [
          | inl o ↦ absurd (omega (arith, rw (vertex_old l v j q, z) at (t.edges j (omega (arith, length_push l v)))))
          | inr o ↦ o
        ]

-- what the search knows of its stack
pub ruleset stack_laws = (ahead_first, none_last, ahead_later, ahead_vertex, stack_more, ahead_more, stack_cycle, descended)
