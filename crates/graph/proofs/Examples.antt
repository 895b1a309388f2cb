-- Small graphs, counted by computing, and graphs for which the hypotheses of the counting theorem, of the bound and of the
-- law of the paths through an edge are met. Assumes nothing.
use mathlib.Core.Path.{◌≡◌, refl}
use mathlib.Core.List.{[], ◌∷◌}
use Prim.Native.Nat.{ℕ, zero, suc, ◌-◌, ◌*◌, ◌^◌, ◌≤◌, ◌<◌, zero-le}
use native.Mathlib.Omega.{arith}
use lib.ListN.{get_or}
use Rattle.sums.specs.Sum.{sum, delta}
use Rattle.graph.specs.Graph.{PathsExactly, PathsWithExactly, Cycle, Acyclic}
use Rattle.graph.specs.Count.{walks, path_count}
use Rattle.graph.specs.Uses.{Uses, one_edge}
use Rattle.graph.proofs.Peeling.{order_acyclic}
use Rattle.graph.proofs.Counting.{exact_path_count}
use Rattle.graph.proofs.Through.{paths_through}

-- ---- from 0 to 1 and 2, and from each of these to 3

pub diamond : ℕ → ℕ → ℕ
diamond i j = get_or (get_or ((0 ∷ 1 ∷ 1 ∷ 0 ∷ []) ∷ (0 ∷ 0 ∷ 0 ∷ 1 ∷ []) ∷ (0 ∷ 0 ∷ 0 ∷ 1 ∷ []) ∷ []) i []) j 0

pub diamond_across : path_count 4 diamond 0 3 ≡ 2
unfolding diamond path_count walks sum delta
diamond_across = refl

-- ---- two edges from 0 to 1 and three from 1 to 2: each choice of edges counts

pub parallel : ℕ → ℕ → ℕ
parallel i j = get_or (get_or ((0 ∷ 2 ∷ []) ∷ (0 ∷ 0 ∷ 3 ∷ []) ∷ []) i []) j 0

pub parallel_across : path_count 3 parallel 0 2 ≡ 6
unfolding parallel path_count walks sum delta
parallel_across = refl

-- ---- an edge from 0 to itself is a cycle

pub loop_cycle : Cycle 1 (λ i j. 1)
loop_cycle = record { at = 0; next = 0; rest = []; bounded = omega arith; back = (omega arith, omega arith, refl) }

-- ---- the complete graph: an edge from each vertex to each greater one

unfoldable pub complete : ℕ → ℕ → ℕ
complete i zero = 0
complete zero (suc j) = 1
complete (suc i) (suc j) = complete i j

complete_lt : (i j : ℕ) → 0 < complete i j → i < j
unfolding complete
complete_lt i zero h = absurd (omega arith)
complete_lt zero (suc j) h = omega arith
complete_lt (suc i) (suc j) h = omega (arith, complete_lt i j h)

pub complete_le : (i j : ℕ) → complete i j ≤ 1
unfolding complete
complete_le i zero = zero-le
complete_le zero (suc j) = omega arith
complete_le (suc i) (suc j) = complete_le i j

-- its vertices in descending order: each edge leads to an earlier one
pub complete_acyclic : (n : ℕ) → Acyclic n complete
complete_acyclic n =
    order_acyclic n complete n (λ m. n - 1 - m)
    record {
      vertex = λ m h. omega arith;
      earlier = λ m h b hb p. (n - 1 - b, omega (arith, complete_lt (n - 1 - m) b p), omega arith);
    }
    (λ i h. (n - 1 - i, omega arith, omega arith))

complete_count : path_count 5 complete 0 4 ≡ 8
unfolding complete path_count walks sum delta
complete_count = refl

-- it has as many paths as `bound` of proofs/Bound.antt allows
pub complete_exactly : PathsExactly 5 complete 0 4 (2 ^ (5 - 2))
complete_exactly = rw complete_count at (exact_path_count 5 complete (complete_acyclic 5) (λ i j hi hj. complete_le i j) 0 4 (omega arith))

complete_through_count : path_count 6 complete 0 2 * path_count 6 complete 3 5 ≡ 4
unfolding complete path_count walks sum delta
complete_through_count = refl

-- two paths lead to the tail of the edge from 2 to 3 and two from its head: four use it
pub complete_through : PathsWithExactly 6 complete 0 5 (Uses (one_edge 2 3)) 4
unfolding complete
complete_through =
    rw complete_through_count at
    (paths_through 6 complete (complete_acyclic 6) (λ i j hi hj. complete_le i j) 2 3 (omega arith) (omega arith) (omega arith) 0 5 (omega arith) (omega arith))
