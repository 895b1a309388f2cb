-- The sheet of 64 vertices with an edge from each vertex to each greater one is valid, and has the greatest sizes: no valid sheet has more
-- words, and none has more edges. Assumes nothing.
use mathlib.Core.Path.{◌≡◌, refl, sym, ap, subst, ◌∙◌}
use mathlib.Core.List.{List}
use Prim.Native.Nat.{ℕ, ◌<◌}
use native.Mathlib.Omega.{arith}
use lib.ListN.{length, replicate, length-replicate}
use Rattle.sums.specs.Sum.{sum}
use Rattle.sums.proofs.SumLaws.{sum_cong}
use Rattle.word.specs.Bit.{bit, bit_count, of_bits}
use Rattle.word.proofs.BitLaws.{of_bits_lt, bit_of_bits}
use Rattle.graph.specs.Graph.{PathsExactly}
use Rattle.graph.specs.Count.{path_count}
use Rattle.graph.proofs.Walks.{cycle_cong, paths_cong}
use Rattle.graph.proofs.Counting.{exact_path_count}
use Rattle.graph.proofs.Examples.{complete, complete_le, complete_acyclic}
use Rattle.sheet_theory.specs.Layout.{most_vertices, size, row_at, edge_at, set_bits, redone}
use Rattle.sheet_theory.specs.Lent.{Lent, lent}
use Rattle.sheet_theory.specs.Valid.{Valid}
use Rattle.sheet_theory.proofs.LayoutLaws.{length_redone, row_redone, count_redone}
use Rattle.sheet_theory.proofs.StrayLaws.{rows_iff}

rows : ℕ → ℕ
rows i = of_bits (complete i)

blank : List ℕ
blank = replicate (size most_vertices) 0

blank_long : length blank ≡ size most_vertices
unfolding blank
blank_long = length-replicate {A = ℕ} (size most_vertices) 0

-- its words
complete_words : List ℕ
complete_words = redone most_vertices rows (path_count most_vertices complete) blank

complete_row : (i : ℕ) → i < most_vertices → row_at complete_words i ≡ rows i
unfolding complete_words
complete_row i hi = row_redone most_vertices rows (path_count most_vertices complete) blank blank_long i hi

complete_edge : (i j : ℕ) → i < most_vertices → j < most_vertices → complete i j ≡ edge_at complete_words i j
unfolding rows
complete_edge i j hi hj = sym (ap (λ (x : ℕ). bit x j) (complete_row i hi) ∙ bit_of_bits (complete i) (complete_le i) j hj)

complete_valid : Valid most_vertices (lent complete_words)
unfolding rows complete_words
complete_valid = record {
  shape = record { low = omega arith; high = omega arith; long = length_redone most_vertices _ _ blank ∙ blank_long };
  rows = (rows_iff most_vertices complete_words).1 (λ i hi. rw (complete_row i hi) (of_bits_lt (complete i) (complete_le i)));
  acyclic = λ c.
      complete_acyclic most_vertices (cycle_cong most_vertices (edge_at complete_words) complete (λ i j hi hj. sym (complete_edge i j hi hj)) c);
  counts = λ i j hi hj.
      paths_cong most_vertices complete (edge_at complete_words) complete_edge i j _
      (subst (PathsExactly most_vertices complete i j) (sym (count_redone most_vertices rows (path_count most_vertices complete) blank blank_long i j hi hj))
      (exact_path_count most_vertices complete (complete_acyclic most_vertices) (λ a b ha hb. complete_le a b) i j hi));
}

total : sum most_vertices (λ i. sum most_vertices (complete i)) ≡ 2016
unfolding sum complete
total = refl

complete_bits : set_bits most_vertices complete_words ≡ 2016
unfolding set_bits bit_count
complete_bits = sum_cong most_vertices _ _ (λ i hi. sum_cong most_vertices _ _ (λ j hj. sym (complete_edge i j hi hj))) ∙ total

-- THE GREATEST NUMBER OF EDGES is reached
pub most_edges_reached : (s : Lent) × Valid most_vertices s × (set_bits most_vertices s.words ≡ 2016)
most_edges_reached = (lent complete_words, complete_valid, complete_bits)
