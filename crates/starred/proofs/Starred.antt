-- THE THEOREM of document 01's starred rows (clause d): each follows from what the calls mean on a valid sheet, and from a list of paths.
-- Assumes nothing.
use mathlib.Core.Path.{◌≡◌, refl, subst}
use mathlib.Core.Logic.{inl, inr, ◌↔◌}
use mathlib.Core.Bool.{cond, false≢true}
use mathlib.Core.List.{List, [], ◌∷◌}
use Prim.Native.Nat.{ℕ, ◌^◌, ◌≤◌, ◌<◌}
use native.Mathlib.Decide.{ℕ_discrete, dec_lt}
use native.Mathlib.Omega.{arith}
use lib.Dec.{eqb}
use lib.ListN.{length}
use Rattle.sums.specs.Sum.{sum}
use Rattle.sums.specs.Gather.{gather}
use Rattle.graph.specs.Graph.{◌is_in◌, IsPath, PathsExactly, PathsWithExactly}
use Rattle.graph.specs.Uses.{Uses, one_edge}
use Rattle.graph.proofs.Lists.{when, each, exactly_only}
use Rattle.graph.proofs.Counting.{walk_list, exactly_self}
use Rattle.answer.specs.Table.{first_true}
use Rattle.answer.specs.Answers.{answer}
use Rattle.sheet_theory.specs.Lent.{Lent, empty_lent}
use Rattle.sheet_theory.specs.Layout.{edge_at}
use Rattle.sheet_theory.proofs.ShapeLaws.{shape_passed}
use Rattle.answer.proofs.AnswerLaws.{answer_ext, refused_by}
use Rattle.sheet_theory.proofs.Meaning.{empty_valid, empty_edge}
use Rattle.edit_theory.specs.Edit.{one, at, insert_edge, insert_edges_at}
use Rattle.edit_theory.specs.Book.{opened}
use Rattle.edit_theory.specs.Table.{most_parallel, asked}
use Rattle.edit_theory.specs.Outcome.{some, some_edge, edit_grounds, edit_answer, edit_after}
use Rattle.edit_theory.proofs.Refusals.{edit_table, edit_refused}
use Rattle.query_theory.specs.Before.{Before}
use Rattle.query_theory.specs.ReachesWithout.{reaches_without_answer}
use Rattle.query_theory.specs.Unrank.{unrank_answer, unrank_after}
use Rattle.query_theory.specs.Rank.{rank_answer}
use Rattle.query_theory.proofs.BeforeLaws.{before_irrefl, before_trans}
use Rattle.query_theory.proofs.Refusals.{unrank_refused}
use Rattle.query_theory.proofs.Meaning.{reaches_without_iff, unrank_beyond_iff, rank_exact, unrank_rank}
use Rattle.starred.specs.SheetOf.{edges_of, SheetOf, diamond}
use Rattle.starred.specs.Starred.{EditRefused, PathIs, insertion, deletion, Starred}
use Rattle.starred.proofs.KnownLaws.{every, same, known_lists, known_paths, known_count, known_closes, known_inserts, known_deletes, known_only}

-- ---- the paths, listed

abbrev upper : List ℕ
upper = 0 ∷ 1 ∷ 3 ∷ []

abbrev lower : List ℕ
lower = 0 ∷ 2 ∷ 3 ∷ []

-- D with the edges at 4, from 1 and to 3
abbrev wider : List (ℕ × ℕ)
wider = (1, 4) ∷ (4, 3) ∷ diamond

paths_0_3 : walk_list 5 (edges_of diamond) 5 0 3 ≡ upper ∷ lower ∷ []
unfolding walk_list when each gather ℕ_discrete dec_lt
paths_0_3 = refl

paths_0_1 : walk_list 5 (edges_of diamond) 5 0 1 ≡ (0 ∷ 1 ∷ []) ∷ []
unfolding walk_list when each gather ℕ_discrete dec_lt
paths_0_1 = refl

wider_paths_0_3 : walk_list 5 (edges_of wider) 5 0 3 ≡ upper ∷ (0 ∷ 1 ∷ 4 ∷ 3 ∷ []) ∷ lower ∷ []
unfolding walk_list when each gather ℕ_discrete dec_lt
wider_paths_0_3 = refl

-- ---- D

module _ (d : Lent) (o : SheetOf 5 diamond d) where
  lists : (p : List ℕ) → IsPath 5 (edge_at d.words) 0 3 p ↔ (p is_in (upper ∷ lower ∷ []))
  lists = known_lists 5 diamond d o 0 3 (omega arith) (upper ∷ lower ∷ []) paths_0_3

  two_paths : PathsExactly 5 (edge_at d.words) 0 3 2
  two_paths = known_paths 5 diamond d o 0 3 (omega arith) (upper ∷ lower ∷ []) paths_0_3

  path_upper : IsPath 5 (edge_at d.words) 0 3 upper
  path_upper = (lists upper).1 (inl refl)

  path_lower : IsPath 5 (edge_at d.words) 0 3 lower
  path_lower = (lists lower).1 (inr (inl refl))

  -- the upper is before the lower: no path is before the upper, and one before the lower
  upper_first : Before upper lower
  upper_first = inr (refl, inl (omega arith))

  before_upper : PathsWithExactly 5 (edge_at d.words) 0 3 (λ p. Before p upper) 0
  before_upper = record { list = []; once = tt; all = λ p q. go p ((lists p).0 q.0) q.1; only = λ p m. absurd m; many = refl }
    where
      go : (p : List ℕ) → p is_in (upper ∷ lower ∷ []) → Before p upper → ⊥
      go p (inl e) b = before_irrefl upper (rw e at b)
      go p (inr (inl e)) b = before_irrefl lower (before_trans lower upper lower (rw e at b) upper_first)
      go p (inr (inr m)) b = m

  before_lower : PathsWithExactly 5 (edge_at d.words) 0 3 (λ p. Before p lower) 1
  before_lower = record {
    list = upper ∷ [];
    once = ((λ m. m), tt);
    all = λ p q. go p ((lists p).0 q.0) q.1;
    only = λ p m. elim m [ inl e ↦ rw e (path_upper, upper_first) | inr x ↦ absurd x ];
    many = refl;
  }
    where
      go : (p : List ℕ) → p is_in (upper ∷ lower ∷ []) → Before p lower → p is_in (upper ∷ [])
      go p (inl e) b = inl e
      go p (inr (inl e)) b = absurd (before_irrefl lower (rw e at b))
      go p (inr (inr m)) b = absurd m

  -- ---- the questions

  module _ (buffer : List ℕ) (room : 5 ≤ length buffer) where
    -- a path that has k paths before it is the path of rank k, and its rank is k
    ranked : (p : List ℕ) (k : ℕ) → IsPath 5 (edge_at d.words) 0 3 p → PathsWithExactly 5 (edge_at d.words) 0 3 (λ q. Before q p) k
        → PathIs 5 d 0 3 k p buffer × (rank_answer 5 d p ≡ answer 0 0 k)
    ranked p k h x =
        let r = rank_exact 5 d o.valid 0 3 p h in
        let e = exactly_only r.1 x in
        (subst (λ v. PathIs 5 d 0 3 v p buffer) e (unrank_rank 5 d o.valid 0 3 p buffer h room), answer_ext _ _ r.0 refl e)

    beyond : (unrank_answer 5 d 0 3 2 (length buffer) ≡ answer 11 0 0) × (unrank_after 5 d 0 3 2 buffer ≡ buffer)
    beyond =
        refused_by _ buffer _ ((unrank_beyond_iff 5 d o.valid 0 3 2 (length buffer) (omega arith) (omega arith) room 2 two_paths).1 (omega arith))
        (unrank_refused 5 d 0 3 2 buffer)

  edge_0_1 : 0 < edge_at d.words 0 1
  edge_0_1 = rw (o.edges 0 1 (omega arith) (omega arith)) (omega arith)

  other_way : reaches_without_answer 5 d 0 3 0 1 ≡ answer 0 0 1
  other_way =
      (reaches_without_iff 5 d o.valid 0 3 0 1 (omega arith) (omega arith) (omega arith) (omega arith) edge_0_1).0.1
      (lower, path_lower, λ u. elim u [ inl e ↦ false≢true e | inr v ↦ elim v [ inl e ↦ false≢true e | inr x ↦ x ] ])

  no_other_way : reaches_without_answer 5 d 0 1 0 1 ≡ answer 0 0 0
  no_other_way =
      (reaches_without_iff 5 d o.valid 0 1 0 1 (omega arith) (omega arith) (omega arith) (omega arith) edge_0_1).1.1
      (λ q. go q.0 ((known_lists 5 diamond d o 0 1 (omega arith) ((0 ∷ 1 ∷ []) ∷ []) paths_0_1 q.0).0 q.1) q.2)
    where
      go : (p : List ℕ) → p is_in ((0 ∷ 1 ∷ []) ∷ []) → ¬ (Uses (one_edge 0 1) p) → ⊥
      go p (inl e) h = h (rw e (inl refl))
      go p (inr m) h = m

  -- ---- the edits

  cycle : EditRefused (insert_edge 5 3 0) d 8
  unfolding first_true some some_edge every same
  cycle =
      known_closes 5 diamond d o (one 3 0) refl ((3, 0) ∷ diamond) refl refl refl
      (record { at = 0; next = 1; rest = 3 ∷ 0 ∷ []; bounded = omega arith; back = (omega arith, omega arith, (omega arith, omega arith, (omega arith, omega arith, refl))) })

  cycle_at : EditRefused (insert_edges_at 5 4 (2 ^ 3) (2 ^ 0)) d 8
  unfolding first_true some some_edge every same
  cycle_at =
      known_closes 5 diamond d o (at 4 (2 ^ 3) (2 ^ 0)) refl ((3, 4) ∷ (4, 0) ∷ diamond) refl refl refl
      (record {
        at = 0;
        next = 1;
        rest = 3 ∷ 4 ∷ 0 ∷ [];
        bounded = omega arith;
        back = (omega arith, omega arith, (omega arith, omega arith, (omega arith, omega arith, (omega arith, omega arith, refl))));
      })

  laid : (edit_answer insertion d ≡ answer 0 0 6) × SheetOf 5 wider (edit_after insertion d)
  unfolding first_true some some_edge every same sum
  laid = known_inserts 5 diamond d o (at 4 (2 ^ 1) (2 ^ 3)) refl wider refl refl refl (λ i. cond (eqb i 3) 5 i) refl

  three_paths : PathsExactly 5 (edge_at (edit_after insertion d).words) 0 3 3
  three_paths = known_paths 5 wider (edit_after insertion d) laid.1 0 3 (omega arith) _ wider_paths_0_3

  lifted : (edit_answer deletion (edit_after insertion d) ≡ answer 0 0 4) × SheetOf 5 diamond (edit_after deletion (edit_after insertion d))
  unfolding first_true some some_edge every same sum
  lifted = known_deletes 5 wider (edit_after insertion d) laid.1 (at 4 (2 ^ 1) (2 ^ 3)) refl diamond refl refl

-- ---- one vertex alone

module _ (e : Lent) (o : SheetOf 1 [] e) where
  loop : EditRefused (insert_edge 1 0 0) e 5
  loop =
      let rest = asked (insert_edge 1 0 0) most_parallel (opened 1 e) (edit_grounds (insert_edge 1 0 0) e) in
      let z = (edit_table (insert_edge 1 0 0) e 5).1
      (shape_passed 1 e o.valid.shape rest 5
      (inr (λ c. elim c [ inl l ↦ omega arith | inr l ↦ omega arith ], inl ((0, omega arith, 0, omega arith, refl, refl), refl)))) in
      refused_by _ e _ z (edit_refused (insert_edge 1 0 0) e)

-- THE THEOREM: of every valid sheet of one vertex without an edge, of every valid sheet that has D's edges, and of every buffer of 5 bytes or more
pub starred : (e d : Lent) (buffer : List ℕ) → SheetOf 1 [] e → SheetOf 5 diamond d → 5 ≤ length buffer → Starred e d buffer
starred e d buffer oe od room = record {
  alone = known_count 1 [] e oe 0 0 (omega arith) (omega arith) 1 (exactly_self 1 (edge_at e.words) 0 (omega arith));
  loop = loop e oe;
  count = known_count 5 diamond d od 0 3 (omega arith) (omega arith) 2 (two_paths d od);
  path0 = (ranked d od buffer room upper 0 (path_upper d od) (before_upper d od)).0;
  path1 = ranked d od buffer room lower 1 (path_lower d od) (before_lower d od);
  path2 = beyond d od buffer room;
  cycle = cycle d od;
  cycle_at = cycle_at d od;
  third = (
    (laid d od).0,
    known_count 5 wider (edit_after insertion d) (laid d od).1 0 3 (omega arith) (omega arith) 3 (three_paths d od),
    (lifted d od).0,
    known_only 5 diamond _ d (lifted d od).1 od,
  );
  other = other_way d od;
  none = no_other_way d od;
}

-- and there are such sheets: the empty one, and D's by two edits of an empty one
pub starred_there : SheetOf 1 [] (empty_lent 1) × SheetOf 5 diamond (edit_after (insert_edges_at 5 3 6 0) (edit_after (insert_edges_at 5 0 0 6) (empty_lent 5)))
unfolding first_true some some_edge every same
starred_there =
    let none : (n : ℕ) → 1 ≤ n → n ≤ 64 → SheetOf n [] (empty_lent n) = λ n low high. record { valid = empty_valid n low high; edges = empty_edge n } in
    let h : ℕ → ℕ = λ i. i in
    let first = known_inserts 5 [] (empty_lent 5) (none 5 (omega arith) (omega arith)) (at 0 0 6) refl ((0, 1) ∷ (0, 2) ∷ []) refl refl refl h refl in
    (none 1 (omega arith) (omega arith), (known_inserts 5 ((0, 1) ∷ (0, 2) ∷ []) _ first.1 (at 3 6 0) refl diamond refl refl refl h refl).1)
