-- A sheet without a cycle whose counts satisfy the recurrence modulo 2 ^ 64 is valid, and a valid sheet's counts satisfy it. A valid
-- sheet is known by its rows. A call that wants a valid sheet has one where it finds nothing, and finds nothing on one. Assumes nothing.
use mathlib.Core.Path.{◌≡◌, refl, sym, ap, subst, ◌∙◌}
use mathlib.Core.Logic.{inr, ◌↔◌}
use mathlib.Core.List.{List}
use Prim.Native.Nat.{ℕ, ◌+◌, ◌*◌, ◌%◌, ◌^◌, ◌≤◌, ◌<◌}
use native.Mathlib.Nat.{mod-mod, mod-lt, mod-eq_of_lt}
use native.Mathlib.Decide.{ℕ_discrete}
use native.Mathlib.Omega.{arith}
use lib.Pow.{pow_pos}
use Rattle.sums.specs.Sum.{delta}
use Rattle.sums.proofs.SumLaws.{sum_cong}
use Rattle.word.specs.Bit.{bit}
use Rattle.word.proofs.BitLaws.{bit_lt}
use Rattle.graph.specs.Graph.{PathsExactly, Acyclic}
use Rattle.graph.specs.Count.{path_count}
use Rattle.graph.proofs.Lists.{exactly_only}
use Rattle.graph.proofs.Recurrence.{path_count_recurrence, path_count_cong, recurrence_mod_only}
use Rattle.graph.proofs.Counting.{exact_path_count}
use Rattle.graph.proofs.Bound.{path_count_below}
use Rattle.answer.specs.Table.{Conditions, First}
use Rattle.sheet_theory.specs.Layout.{row_at, count_at, edge_at}
use Rattle.sheet_theory.specs.Lent.{Lent, lent, Lends}
use Rattle.sheet_theory.specs.Conditions.{StrayRow}
use Rattle.sheet_theory.specs.Valid.{Valid, not_valid, valid_conditions}
use Rattle.sheet_theory.specs.Internal.{successors_sum, CountsHold}
use Rattle.answer.proofs.TableLaws.{first_rest}
use Rattle.answer.proofs.ByNumber.{first_not}
use Rattle.sheet_theory.proofs.ShapeLaws.{accepted_shape, shape_passed, shape_rest}
use Rattle.sheet_theory.proofs.LayoutLaws.{rest_none, sheet_ext}

pub edge_le : (s : List ℕ) (i j : ℕ) → edge_at s i j ≤ 1
edge_le s i j = omega (arith, bit_lt (row_at s i) j)

-- the paths over the rows of a sheet without a cycle are as many as `path_count` says, and that fits a word
module _ (n : ℕ) (s : List ℕ) (high : n ≤ 64) (acyclic : Acyclic n (edge_at s)) where
  pub paths_exactly : (i j : ℕ) → i < n → PathsExactly n (edge_at s) i j (path_count n (edge_at s) i j)
  paths_exactly i j hi = exact_path_count n (edge_at s) acyclic (λ a b ha hb. edge_le s a b) i j hi

  pub paths_fit : (i j : ℕ) → i < n → j < n → path_count n (edge_at s) i j % 2 ^ 64 ≡ path_count n (edge_at s) i j
  paths_fit i j hi hj = mod-eq_of_lt (path_count_below n (edge_at s) acyclic high (λ a b ha hb. edge_le s a b) i j hi hj)

  -- counts that satisfy the recurrence are the numbers of paths
  holds_count : ((i : ℕ) → i < n → CountsHold n s i) → (i j : ℕ) → i < n → j < n → count_at n s i j ≡ path_count n (edge_at s) i j
  unfolding successors_sum
  holds_count h i j hi hj =
      sym (mod-eq_of_lt (rw (h i hi j hj) (mod-lt _ (pow_pos 64))))
      ∙ recurrence_mod_only n (edge_at s) acyclic (2 ^ 64) (count_at n s) (λ a b ha hb. ap (λ (x : ℕ). x % 2 ^ 64) (h a ha b hb) ∙ mod-mod _ (2 ^ 64)) i j hi hj
      ∙ paths_fit i j hi hj

  -- and the numbers of paths satisfy it
  count_holds : ((i j : ℕ) → i < n → j < n → count_at n s i j ≡ path_count n (edge_at s) i j) → (i : ℕ) → i < n → CountsHold n s i
  unfolding successors_sum
  count_holds h i hi j hj =
      h i j hi hj
      ∙ sym (paths_fit i j hi hj)
      ∙ ap (λ (x : ℕ). x % 2 ^ 64)
      (path_count_recurrence n (edge_at s) acyclic i j hi hj ∙ ap (λ (x : ℕ). delta i j + x) (sum_cong n _ _ (λ b hb. ap (λ (x : ℕ). edge_at s i b * x) (sym (h b j hb hj)))))

pub valid_count : (n : ℕ) (s : Lent) → Valid n s → (i j : ℕ) → i < n → j < n → count_at n s.words i j ≡ path_count n (edge_at s.words) i j
valid_count n s v i j hi hj = exactly_only (v.counts i j hi hj) (paths_exactly n s.words v.shape.high v.acyclic i j hi)

-- VALID: a sheet of the right shape, without a stray bit and without a cycle, is valid exactly if its counts satisfy the recurrence
pub valid_iff_holds : (n : ℕ) (s : Lent) → Lends n s → ¬ (StrayRow n s.words) → Acyclic n (edge_at s.words)
    → Valid n s ↔ ((i : ℕ) → i < n → CountsHold n s.words i)
valid_iff_holds n s shape rows acyclic = (
  λ v. count_holds n s.words shape.high acyclic (valid_count n s v),
  λ h. record {
    shape = shape;
    rows = rows;
    acyclic = acyclic;
    counts = λ i j hi hj.
        subst (PathsExactly n (edge_at s.words) i j) (sym (holds_count n s.words shape.high acyclic h i j hi hj))
        (paths_exactly n s.words shape.high acyclic i j hi);
  },
)

-- what is lent is known by its words
pub lent_ext : (s t : Lent) → s.words ≡ t.words → s ≡ t
lent_ext s t e = ap lent e

-- two valid sheets with the same rows are the same, word for word
pub valid_only : (n : ℕ) (s t : Lent) → Valid n s → Valid n t → ((i : ℕ) → i < n → row_at s.words i ≡ row_at t.words i) → s ≡ t
valid_only n s t v v' h =
    lent_ext s t
    (sheet_ext n s.words t.words v.shape.long v'.shape.long h
    (λ i j hi hj.
    valid_count n s v i j hi hj
    ∙ path_count_cong n (edge_at s.words) (edge_at t.words) (λ a b ha hb. ap (λ x. bit x b) (h a ha)) i j hi
    ∙ sym (valid_count n t v' i j hi hj))
    (λ k q l. absurd (rest_none n k q l)))

-- ---- what a call that wants a valid sheet looks for

-- a sheet that cannot be other than valid is valid: each count is or is not the number of paths
valid_stable : (n : ℕ) (s : Lent) → Lends n s → ¬ (¬ (Valid n s)) → Valid n s
valid_stable n s shape d =
    let acyclic : Acyclic n (edge_at s.words) = λ c. d (λ v. v.acyclic c) in
    record {
      shape = shape;
      rows = λ c. d (λ v. v.rows c);
      acyclic = acyclic;
      counts = λ i j hi hj.
          elim (ℕ_discrete (count_at n s.words i j) (path_count n (edge_at s.words) i j)) [
            | yes e ↦ rw e (paths_exactly n s.words shape.high acyclic i j hi)
            | no c ↦ absurd (d (λ v. c (valid_count n s v i j hi hj)))
          ];
    }

pub accepted_valid : (n : ℕ) (s : Lent) (cs : Conditions) → First (valid_conditions n s cs) 0 → Valid n s
accepted_valid n s cs f =
    valid_stable n s (accepted_shape n s (not_valid n s cs) f) (first_not (valid_conditions n s cs) 0 f 9 refl)

-- on a valid sheet what comes after 9 gives the number
pub valid_passed : (n : ℕ) (s : Lent) → Valid n s → (cs : Conditions) (k : ℕ) → First cs k → First (valid_conditions n s cs) k
valid_passed n s v cs k f = shape_passed n s v.shape (not_valid n s cs) k (inr (λ d. d v, f))

pub valid_rest : (n : ℕ) (s : Lent) → Valid n s → (cs : Conditions) (k : ℕ) → First (valid_conditions n s cs) k → First cs k
valid_rest n s v cs k f = first_rest (λ d. d v) (shape_rest n s v.shape (not_valid n s cs) k f)
