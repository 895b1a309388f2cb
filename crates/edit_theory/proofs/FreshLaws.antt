-- Sheets worked out afresh: one from a model of 1 to 64 vertices without a cycle is valid, a valid one is that of the model that it
-- opens, there is only one, and which words make one. Assumes nothing.
use mathlib.Core.Path.{◌≡◌, refl, sym, ap, subst, ◌∙◌}
use Prim.Native.Nat.{ℕ, ◌^◌, ◌≤◌, ◌<◌}
use native.Mathlib.Nat.{mod-eq_of_lt}
use lib.Dec.{ltb}
use lib.ListN.{length}
use native.Mathlib.Omega.{arith}
use Rattle.sums.specs.Modulo.{Congruent}
use Rattle.sums.proofs.SumLaws.{sum_cong}
use Rattle.word.specs.Bit.{bit}
use Rattle.word.proofs.BitLaws.{bit_lt, bits_determine}
use Rattle.word.proofs.CountLaws.{bit_count_below}
use Rattle.graph.specs.Graph.{PathsExactly, Acyclic}
use Rattle.graph.specs.Count.{path_count}
use Rattle.graph.proofs.Lists.{exactly_only}
use Rattle.graph.proofs.Walks.{paths_cong, cycle_cong}
use Rattle.graph.proofs.Counting.{exact_path_count}
use Rattle.sheet_theory.specs.Layout.{size, row_at, count_at, edge_at, set_bits, redone}
use Rattle.sheet_theory.specs.Lent.{Lent, lent}
use Rattle.sheet_theory.specs.Valid.{Valid}
use Rattle.sheet_theory.proofs.StrayLaws.{rows_iff}
use Rattle.sheet_theory.proofs.LayoutLaws.{length_redone, row_redone, count_redone, rest_none, sheet_ext}
use Rattle.sheet_theory.proofs.ValidLaws.{lent_ext}
use Rattle.edit_theory.specs.Edit.{one_if}
use Rattle.edit_theory.specs.Book.{Model, opened}
use Rattle.edit_theory.specs.Model.{edge_count, Fresh}
use Rattle.edit_theory.proofs.NamedLaws.{one_if_positive}

-- s is worked out afresh from m, which has 1 to 64 vertices and no cycle
pub record Modelled (m : Model) (s : Lent) : Type 0 where
  pub low : 1 ≤ m.vertices
  pub high : m.vertices ≤ 64
  pub acyclic : Acyclic m.vertices m.edge
  pub fresh : Fresh m s

module _ {m : Model} {s : Lent} (h : Modelled m s) where
  pub modelled_valid : Valid m.vertices s
  modelled_valid = record {
    shape = record { low = h.low; high = h.high; long = h.fresh.long };
    rows = h.fresh.rows;
    acyclic = λ c. h.acyclic (cycle_cong m.vertices (edge_at s.words) m.edge h.fresh.bits c);
    counts = λ i j hi hj. paths_cong m.vertices m.edge (edge_at s.words) (λ x y hx hy. sym (h.fresh.bits x y hx hy)) i j _ (h.fresh.counts i j hi hj);
  }

  pub modelled_edge : (i j : ℕ) → i < m.vertices → j < m.vertices → m.edge i j ≤ 1
  modelled_edge i j hi hj = omega (arith, h.fresh.bits i j hi hj, bit_lt (row_at s.words i) j)

  pub modelled_count : (i j : ℕ) → i < m.vertices → j < m.vertices → count_at m.vertices s.words i j ≡ path_count m.vertices m.edge i j
  modelled_count i j hi hj = exactly_only (h.fresh.counts i j hi hj) (exact_path_count m.vertices m.edge h.acyclic modelled_edge i j hi)

pub valid_modelled : {n : ℕ} {s : Lent} → Valid n s → Modelled (opened n s) s
valid_modelled v = record {
  low = v.shape.low;
  high = v.shape.high;
  acyclic = v.acyclic;
  fresh = record { long = v.shape.long; rows = v.rows; bits = λ i j hi hj. refl; counts = v.counts };
}

-- the set bits of all rows are the edges
pub fresh_value : {m : Model} {s : Lent} → m.vertices ≤ 64 → Fresh m s → set_bits m.vertices s.words ≡ edge_count m
unfolding set_bits
fresh_value {m} {s} high f =
    sum_cong m.vertices _ _
    (λ i hi. bit_count_below m.vertices (row_at s.words i) high ((rows_iff m.vertices s.words).0 f.rows i hi) ∙ sum_cong m.vertices _ _ (λ j hj. edge_pair i j hi hj))
  where
    edge_pair : (i j : ℕ) → i < m.vertices → j < m.vertices → bit (row_at s.words i) j ≡ one_if (ltb 0 (m.edge i j))
    edge_pair i j hi hj = let e = f.bits i j hi hj in e ∙ sym (one_if_positive (m.edge i j) (omega (arith, e, bit_lt (row_at s.words i) j)))

-- ONE SHEET: two models with equally many vertices and equal edges have the same sheet, word for word
pub fresh_only : (n : ℕ) (w w' : ℕ → ℕ → ℕ) (s t : Lent) → ((i j : ℕ) → i < n → j < n → w i j ≡ w' i j)
    → Fresh (record { vertices = n; edge = w }) s → Fresh (record { vertices = n; edge = w' }) t → s ≡ t
fresh_only n w w' s t h f g =
    lent_ext s t
    (sheet_ext n s.words t.words f.long g.long
    (λ i hi. bits_determine n (row_at s.words i) (row_at t.words i) ((rows_iff n s.words).0 f.rows i hi) ((rows_iff n t.words).0 g.rows i hi)
    (λ j hj. f.bits i j hi hj ∙ h i j hi hj ∙ sym (g.bits i j hi hj)))
    (λ i j hi hj. exactly_only (paths_cong n w w' h i j _ (f.counts i j hi hj)) (g.counts i j hi hj))
    (λ k q l. absurd (rest_none n k q l)))

-- words with the model's edges for rows, and its counts modulo 2 ^ 64, are its sheet if no count leaves 64 bits
pub fresh_made : (m : Model) (r : ℕ → ℕ) (c : ℕ → ℕ → ℕ) (s : Lent) → length s.words ≡ size m.vertices
    → Acyclic m.vertices m.edge
    → ((i j : ℕ) → i < m.vertices → j < m.vertices → path_count m.vertices m.edge i j < 2 ^ 64)
    → ((i : ℕ) → i < m.vertices → r i < 2 ^ m.vertices)
    → ((i j : ℕ) → i < m.vertices → j < m.vertices → bit (r i) j ≡ m.edge i j)
    → ((i j : ℕ) → i < m.vertices → j < m.vertices → Congruent (2 ^ 64) (c i j) (path_count m.vertices m.edge i j))
    → ((i j : ℕ) → c i j < 2 ^ 64)
    → Fresh m (lent (redone m.vertices r c s.words))
fresh_made m r c s long acyclic fits rows bits counts small =
    let n = m.vertices in
    let w = m.edge in
    let one : (i j : ℕ) → i < n → j < n → w i j ≤ 1 = λ i j hi hj. omega (arith, bits i j hi hj, bit_lt (r i) j) in
    record {
      long = length_redone n r c s.words ∙ long;
      rows = (rows_iff n (redone n r c s.words)).1 (λ i hi. rw (row_redone n r c s.words long i hi) (rows i hi));
      bits = λ i j hi hj. ap (λ x. bit x j) (row_redone n r c s.words long i hi) ∙ bits i j hi hj;
      counts = λ i j hi hj.
          let exact = exact_path_count n w acyclic one i j hi in
          subst (PathsExactly n w i j)
          (sym (count_redone n r c s.words long i j hi hj
          ∙ sym (mod-eq_of_lt (small i j))
          ∙ counts i j hi hj
          ∙ mod-eq_of_lt (fits i j hi hj)))
          exact;
    }
