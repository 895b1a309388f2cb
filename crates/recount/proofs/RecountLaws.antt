-- A sheet that `recount_core` has recounted. Assumes nothing.
use Rattle.std.proofs.Common.{◌≡◌, inr, List, ℕ, ◌%◌, ◌^◌, ◌<◌, length, get_or, refl, sym, ap, ◌∙◌, subst}
use Rattle.graph.specs.Graph.{PathsExactly, Cycle}
use Rattle.graph.specs.Count.{path_count}
use Rattle.answer.specs.Answers.{answer}
use Rattle.sheet_theory.proofs.StrayLaws.{rows_iff}
use Rattle.sheet_theory.specs.Layout.{Shape, row_at, count_at, edge_at, set_bits}
use Rattle.sheet_theory.specs.Lent.{lent}
use Rattle.sheet_theory.proofs.ValidLaws.{paths_exactly, paths_fit}
use Rattle.sheet_theory.proofs.LayoutLaws.{redone_ext, length_redone, row_redone, count_redone, rest_redone}
use Rattle.sheet_theory.proofs.SetBitsLaws.{set_bits_cong}
use Rattle.recount_theory.specs.Calls.{row_conditions, Recounted, RecountBy}
use Rattle.vertex_counts.specs.Internal.{counted}
use Rattle.sheet.proofs.StrayLaws.{rows_below}
use Rattle.order.specs.Internal.{Ordered}
use Rattle.order.proofs.OrderLaws.{ordered_acyclic}

-- a sheet whose counts are the numbers of paths, and which is s besides, is s recounted
recounted_of : (n : ℕ) (s t : List ℕ) → Shape n s → ¬ (Cycle n (edge_at s)) → t ≡ counted n s → Recounted n (lent s) (lent t)
recounted_of n s t shape acyclic e =
    let c : ℕ → ℕ → ℕ = λ i j. path_count n (edge_at s) i j % 2 ^ 64 in
    let count : (i j : ℕ) → i < n → j < n → count_at n t i j ≡ path_count n (edge_at s) i j
    = λ i j hi hj. ap (λ (l : List ℕ). count_at n l i j) e ∙ count_redone n (row_at s) c s shape.long i j hi hj ∙ paths_fit n s shape.high acyclic i j hi hj in
    record {
      kept = ap lent
          (redone_ext n (row_at s) (count_at n t) s t (ap length e ∙ length_redone n (row_at s) c s)
          (λ i hi. ap (λ (l : List ℕ). row_at l i) e ∙ row_redone n (row_at s) c s shape.long i hi)
          (λ i j hi hj. refl)
          (λ k q. ap (λ (l : List ℕ). get_or l k 0) e ∙ rest_redone n (row_at s) c s k q));
      counts = λ i j hi hj. subst (PathsExactly n (edge_at s) i j) (sym (count i j hi hj)) (paths_exactly n s shape.high acyclic i j hi);
    }

module _ (n : ℕ) (s : List ℕ) (shape : Shape n s) (t : List ℕ) (e : t ≡ counted n s) where
  pub recount_accepted : (l : List ℕ) → Ordered n s l → (v : ℕ) → v ≡ set_bits n t
      → RecountBy (row_conditions n (lent s)) n (lent s) (answer 0 0 v) (lent t)
  recount_accepted l o v ev =
      let acyclic = ordered_acyclic n s l o in
      record {
        number = inr ((rows_iff n s).1 o.below, inr (acyclic, refl));
        place = refl;
        value = ev ∙ set_bits_cong n t s (λ i hi. ap (λ (l : List ℕ). row_at l i) e ∙ row_redone n (row_at s) _ s shape.long i hi);
        accepted = λ q. recounted_of n s t shape acyclic e;
        refused = λ d. absurd (d refl);
      }

-- where no row has a bit too many there is an order or a cycle, and what was recounted in that order is accepted
pub ruleset recount_laws = (rows_below, recount_accepted)
