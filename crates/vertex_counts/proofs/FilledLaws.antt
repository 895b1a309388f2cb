-- Filling the counts vertex by vertex, each from those of its successors, in an order in which every edge leads to an earlier vertex: the
-- counts become the numbers of paths. Assumes nothing.
use mathlib.Core.Path.{◌≡◌, refl, sym, ap, ◌∙◌, subst}
use mathlib.Core.Logic.{◌⊎◌, inl, inr}
use mathlib.Core.List.{List}
use Prim.Native.Nat.{ℕ, ◌+◌, ◌*◌, ◌%◌, ◌^◌, ◌≤◌, ◌<◌}
use native.Mathlib.Nat.{mod-mod, zero-mul}
use native.Mathlib.Decide.{dec_lt, ℕ_discrete}
use native.Mathlib.Omega.{arith}
use lib.ListN.{length, get_or}
use Rattle.sums.specs.Sum.{sum, delta}
use Rattle.sums.specs.Modulo.{Congruent}
use Rattle.sums.proofs.ModuloLaws.{congruent_add, congruent_mul, congruent_sum}
use Rattle.word.specs.Bit.{bit}
use Rattle.graph.specs.Count.{path_count}
use Rattle.graph.proofs.Recurrence.{path_count_recurrence, path_count_cong}
use Rattle.sheet_theory.specs.Layout.{counts_end, Shape, row_at, count_at, edge_at}
use Rattle.sheet_theory.specs.Internal.{successors_sum}
use Rattle.sheet_theory.proofs.LayoutLaws.{row_counts, from_within, redone_ext}
use Rattle.sheet.specs.Internal.{with_counts}
use Rattle.sheet.proofs.WordsLaws.{counts_long, counts_in, counts_out, counts_stay}
use Rattle.vertex_counts.specs.Internal.{ColumnsFilled, counted}
use Rattle.order.specs.Internal.{vertex_at, Ordered}
use Rattle.order.proofs.OrderLaws.{ordered_acyclic}

-- ---- the counts filled so far

-- t is s with the counts from the first k vertices of the order v to the w columns from c on worked out
pub record Filled (n : ℕ) (s : List ℕ) (v : ℕ → ℕ) (c w k : ℕ) (t : List ℕ) : Type 0 where
  pub long : length t ≡ length s
  pub rows : (i : ℕ) → i < n → row_at t i ≡ row_at s i
  pub done : (m : ℕ) → m < k → (j : ℕ) → c ≤ j → j < c + w → count_at n t (v m) j ≡ path_count n (edge_at s) (v m) j % 2 ^ 64
  pub kept : (i j : ℕ) → i < n → j < n → (j < c) ⊎ (c + w ≤ j) → count_at n t i j ≡ count_at n s i j
  pub rest : (k : ℕ) → counts_end n ≤ k → get_or t k 0 ≡ get_or s k 0

module _ (n : ℕ) (s l : List ℕ) (h : Ordered n s l) (shape : Shape n s) (c w : ℕ) (within : c + w ≤ n) where
  -- ---- one vertex more

  module _ (t u : List ℕ) (k : ℕ) (hk : k < n) (f : Filled n s (vertex_at l) c w k t) (r : u ≡ with_counts n t (vertex_at l k) c w (successors_sum n t (vertex_at l k))) where
    -- an edge leads to a vertex whose counts are worked out
    term : (j : ℕ) → c ≤ j → j < c + w → (b : ℕ) → b < n
        → Congruent (2 ^ 64) (edge_at s (vertex_at l k) b * count_at n t b j) (edge_at s (vertex_at l k) b * path_count n (edge_at s) b j)
    term j lo hi b hb =
        let i = vertex_at l k in
        elim (dec_lt 0 (edge_at s i b)) [
          | yes e ↦
              let o = h.order.earlier k hk b hb e in
              congruent_mul (2 ^ 64) (edge_at s i b) (count_at n t b j) (path_count n (edge_at s) b j)
              (rw (← o.2) (ap (λ (x : ℕ). x % 2 ^ 64) (f.done o.0 o.1 j lo hi) ∙ mod-mod _ (2 ^ 64)))
          | no e ↦ let z : edge_at s i b ≡ 0 = omega arith in rw z (simp zero-mul)
        ]

    -- so the recurrence gives its own
    now_done : (j : ℕ) → c ≤ j → j < c + w → count_at n u (vertex_at l k) j ≡ path_count n (edge_at s) (vertex_at l k) j % 2 ^ 64
    unfolding successors_sum
    now_done j lo hi =
        let i = vertex_at l k in
        let vertex = h.order.vertex k hk in
        counts_in _ _ _ _ _ _ _ r (omega (arith, from_within n i vertex, f.long, shape.long, within)) j lo hi
        ∙ ap (λ (x : ℕ). (delta i j + sum n (λ b. bit x b * count_at n t b j)) % 2 ^ 64) (f.rows i vertex)
        ∙ congruent_add (2 ^ 64) (delta i j) _ (delta i j) _ refl (congruent_sum (2 ^ 64) n _ _ (term j lo hi))
        ∙ ap (λ (x : ℕ). x % 2 ^ 64) (sym (path_count_recurrence n (edge_at s) (ordered_acyclic n s l h) i j vertex (omega arith)))

    stays : (i j : ℕ) → j < n → (i ≡ vertex_at l k → (j < c) ⊎ (c + w ≤ j)) → count_at n u i j ≡ count_at n t i j
    stays = counts_stay _ _ _ _ _ _ _ r within

    pub filled_more : Filled n s (vertex_at l) c w (k + 1) u
    filled_more = record {
      long = counts_long _ _ _ _ _ _ _ r ∙ f.long;
      rows = λ i hi. counts_out _ _ _ _ _ _ _ r i (inl (omega arith)) ∙ f.rows i hi;
      done = λ m q j lo hi.
          elim (ℕ_discrete (vertex_at l m) (vertex_at l k)) [
            | yes e ↦ rw e (now_done j lo hi)
            | no d ↦ elim (ℕ_discrete m k) [
              | yes e ↦ absurd (d (ap (vertex_at l) e))
              | no z ↦ stays (vertex_at l m) j (omega (arith, within)) (λ e. absurd (d e)) ∙ f.done m (omega (arith, z)) j lo hi
            ]
          ];
      kept = λ i j hi hj q. stays i j hj (λ e. q) ∙ f.kept i j hi hj q;
      rest = λ x q. counts_out _ _ _ _ _ _ _ r x (inr (omega (arith, within, row_counts n (vertex_at l k) (h.order.vertex k hk)))) ∙ f.rest x q;
    }

  -- ---- all vertices

  pub filled_all : (t : List ℕ) (k : ℕ) → Filled n s (vertex_at l) c w k t → length l ≤ k → ColumnsFilled n s c w t
  filled_all t k f e = record {
    long = f.long;
    rows = f.rows;
    filled = λ i j hi hj lo q. let o = h.all i hi in rw (← o.2) (f.done o.0 (omega (arith, o.1, h.long)) j lo q);
    kept = f.kept;
    rest = f.rest;
  }

-- the rows stay, and with them the order and what the edges lead to
pub same_ordered : (n : ℕ) (s t : List ℕ) → length t ≡ length s → ((i : ℕ) → i < n → row_at t i ≡ row_at s i) → (l : List ℕ) → Ordered n s l → Ordered n t l
same_ordered n s t long rows l h = record {
  below = λ i hi. rw (rows i hi) (h.below i hi);
  long = h.long;
  order = record {
    vertex = h.order.vertex;
    earlier = λ m q b hb e. h.order.earlier m q b hb (subst (λ (x : ℕ). 0 < bit x b) (rows _ (h.order.vertex m q)) e);
  };
  all = h.all;
}

-- ---- columns after columns

-- those below c, and then those from a on, among which are all the next after c
pub columns_more : (n : ℕ) (s t u : List ℕ) (c a w : ℕ) → ColumnsFilled n s 0 c t → ColumnsFilled n t a w u → a ≤ c
    → ((j : ℕ) → j < n → j < c + w → j < a + w) → ColumnsFilled n s 0 (c + w) u
columns_more n s t u c a w f g low holds =
    record {
      long = g.long ∙ f.long;
      rows = λ i hi. g.rows i hi ∙ f.rows i hi;
      filled = λ i j hi hj lo q.
          elim (dec_lt j a) [
            | yes p ↦ g.kept i j hi hj (inl p) ∙ f.filled i j hi hj lo (omega arith)
            | no p ↦
                g.filled i j hi hj (omega arith) (holds j hj (omega arith))
                ∙ ap (λ (x : ℕ). x % 2 ^ 64) (path_count_cong n (edge_at t) (edge_at s) (λ x y hx hy. ap (λ (z : ℕ). bit z y) (f.rows x hx)) i j hi)
          ];
      kept = λ i j hi hj q. elim q [ inl p ↦ absurd (omega arith) | inr p ↦ g.kept i j hi hj (inr (omega arith)) ∙ f.kept i j hi hj (inr (omega arith)) ];
      rest = λ k q. g.rest k q ∙ f.rest k q;
    }

pub columns_all : (n : ℕ) (s t : List ℕ) (c : ℕ) → ColumnsFilled n s 0 c t → n ≤ c → t ≡ counted n s
columns_all n s t c f e =
    redone_ext n (row_at s) (λ i j. path_count n (edge_at s) i j % 2 ^ 64) s t f.long f.rows
    (λ i j hi hj. f.filled i j hi hj (omega arith) (omega arith)) f.rest
