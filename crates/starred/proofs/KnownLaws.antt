-- What is known of a sheet that is known by its edges: its paths, once they are listed; what an edit of it answers and leaves; and that
-- there is but one. Assumes nothing.
use mathlib.Core.Path.{◌≡◌, refl, sym, ap, subst, ◌∙◌}
use mathlib.Core.Logic.{◌↔◌}
use mathlib.Core.Bool.{Bool, true, false, cond, ◌&&◌, false≢true}
use mathlib.Core.List.{List, []}
use Prim.Native.Nat.{ℕ, zero, suc, ◌≤◌, ◌<◌}
use native.Mathlib.Decide.{ℕ_discrete}
use native.Mathlib.Omega.{arith}
use borrow.Author.Tests.{ltb-true, eqb-true}
use lib.Dec.{ltb, leb, eqb}
use lib.ListN.{length}
use Rattle.sums.specs.Sum.{sum}
use Rattle.sums.proofs.SumLaws.{sum_cong}
use Rattle.graph.specs.Graph.{◌is_in◌, Distinct, IsPath, PathsExactly, Cycle, Acyclic}
use Rattle.graph.proofs.Lists.{exactly_only}
use Rattle.graph.proofs.Walks.{rising_acyclic, path_cong, cycle_cong}
use Rattle.graph.proofs.Counting.{walk_list, walk_list_distinct, path_listed_iff}
use Rattle.answer.specs.Table.{First, first_true, Reflects}
use Rattle.answer.specs.Answers.{answer, decided}
use Rattle.sheet_theory.specs.Lent.{Lent, mult_at}
use Rattle.sheet_theory.specs.Layout.{edge_at}
use Rattle.sheet_theory.specs.Calls.{path_count_answer}
use Rattle.answer.proofs.TableLaws.{reflects_false, reflects_le, reflects_eq, first_true_lem, first_rest}
use Rattle.answer.proofs.AnswerLaws.{answer_ext, refused_by}
use Rattle.sheet_theory.proofs.Meaning.{path_count_exact}
use Rattle.edit_theory.specs.Edit.{Edges, Edit, named, one_if, changed}
use Rattle.edit_theory.specs.Table.{SomeEdge, argued, most_parallel}
use Rattle.edit_theory.specs.Outcome.{argued_tests, some_edge, edit_answer, edit_after}
use Rattle.edit_theory.specs.Book.{opened}
use Rattle.edit_theory.specs.Model.{effect, edge_count, Fresh}
use Rattle.edit_theory.proofs.TestLaws.{some_edge_reflects}
use Rattle.edit_theory.proofs.ConditionLaws.{argued_agree}
use Rattle.edit_theory.proofs.FreshLaws.{valid_modelled, fresh_only}
use Rattle.edit_theory.proofs.OneEdit.{edit_exact, edit_effects, edit_cycle_iff}
use Rattle.edit_theory.proofs.Refusals.{edit_refused}
use Rattle.starred.specs.SheetOf.{listed, edges_of, SheetOf}

-- ---- a table of numbers against another, by a test

-- whether f is true of every number below n
unfoldable pub every : ℕ → (ℕ → Bool) → Bool
every zero f = true
every (suc n) f = cond (f n) (every n f) false

every_of : (n : ℕ) (f : ℕ → Bool) → every n f ≡ true → (i : ℕ) → i < n → f i ≡ true
unfolding every
every_of zero f e i h = absurd (omega arith)
every_of (suc n) f e i h = go (f n) refl e (λ q. every_of n f q i)
  where
    go : (b : Bool) → f n ≡ b → cond b (every n f) false ≡ true → (every n f ≡ true → i < n → f i ≡ true) → f i ≡ true
    go true q e rest = elim (ℕ_discrete i n) [ yes d ↦ ap f d ∙ q | no d ↦ rest e (omega arith) ]
    go false q e rest = absurd (false≢true e)

-- whether the tables f and g are the same below n
unfoldable pub same : ℕ → (ℕ → ℕ → ℕ) → (ℕ → ℕ → ℕ) → Bool
same n f g = every n (λ i. every n (λ j. eqb (f i j) (g i j)))

same_of : (n : ℕ) (f g : ℕ → ℕ → ℕ) → same n f g ≡ true → (i j : ℕ) → i < n → j < n → f i j ≡ g i j
unfolding same
same_of n f g e i j hi hj = eqb-true _ _ (every_of n _ (every_of n _ e i hi) j hj)

-- an edge that is one of those that rise, rises
rises : (x y : ℕ) (b : Bool) → 0 < one_if b → one_if (b && ltb x y) ≡ one_if b → x < y
rises x y true p q = ltb-true x y (go (ltb x y) q)
  where
    go : (t : Bool) → one_if t ≡ 1 → t ≡ true
    go true e = refl
    go false e = absurd (omega arith)
rises x y false p q = absurd (omega arith)

module _ (n : ℕ) (l : List (ℕ × ℕ)) (s : Lent) (o : SheetOf n l s) where
  -- ---- its paths

  known_acyclic : Acyclic n (edges_of l)
  known_acyclic c = o.valid.acyclic (cycle_cong n (edges_of l) (edge_at s.words) (λ i j hi hj. sym (o.edges i j hi hj)) c)

  -- the paths from i to j are those of a list, once it is known to have them all
  module _ (i j : ℕ) (hi : i < n) (p : List (List ℕ)) (e : walk_list n (edges_of l) n i j ≡ p) where
    pub known_lists : (x : List ℕ) → IsPath n (edge_at s.words) i j x ↔ (x is_in p)
    known_lists x =
        let r = path_listed_iff n (edges_of l) known_acyclic i j hi x in (
          λ q. subst (λ t. x is_in t) e (r.0 (path_cong n (edge_at s.words) (edges_of l) o.edges i j x q)),
          λ m. path_cong n (edges_of l) (edge_at s.words) (λ a b ha hb. sym (o.edges a b ha hb)) i j x (r.1 (subst (λ t. x is_in t) (sym e) m)),
        )

    pub known_paths : PathsExactly n (edge_at s.words) i j (length p)
    known_paths = record {
      list = p;
      once = subst Distinct e (walk_list_distinct n (edges_of l) n i j);
      all = λ x. (known_lists x).0;
      only = λ x. (known_lists x).1;
      many = refl;
    }

  -- so their number is what `path_count` answers
  pub known_count : (i j : ℕ) → i < n → j < n → (k : ℕ) → PathsExactly n (edge_at s.words) i j k → path_count_answer n s i j ≡ answer 0 0 k
  known_count i j hi hj k x =
      let r = path_count_exact n s i j o.valid hi hj in answer_ext _ _ r.0 refl (exactly_only r.1 x)

  -- ---- an edit of it, after which the edges are m

  module _ (inserts : Bool) (g : Edges) (m : List (ℕ × ℕ)) (becomes : same n (λ i j. changed inserts (named g i j) (edges_of l i j)) (edges_of m) ≡ true) where
    abbrev edit : Edit
    edit = record { inserts = inserts; vertices = n; edges = g }

    abbrev after : ℕ → ℕ → ℕ
    after = (effect (opened n s) edit).edge

    after_is : (i j : ℕ) → i < n → j < n → after i j ≡ edges_of m i j
    after_is i j hi hj = ap (changed inserts (named g i j)) (o.edges i j hi hj) ∙ same_of n _ _ becomes i j hi hj

    one_edge_lem : (i j : ℕ) → i < n → j < n → one_if (ltb 0 (after i j)) ≡ edges_of m i j
    one_edge_lem i j hi hj = ap (λ x. one_if (ltb 0 x)) (after_is i j hi hj) ∙ go (listed m i j)
      where
        go : (t : Bool) → one_if (ltb 0 (one_if t)) ≡ one_if t
        go true = refl
        go false = refl

    -- an edit that is accepted leaves a sheet of the edges m, and the value is how many they are
    leaves : (edit_answer edit s).number ≡ 0 → (edit_answer edit s ≡ answer 0 0 (sum n (λ i. sum n (edges_of m i)))) × SheetOf n m (edit_after edit s)
    leaves z =
        let r = edit_exact n s o.valid edit in
        let q : r.0 ≡ effect (opened n s) edit = r.1.after ∙ ap (λ k. decided k (effect (opened n s) edit) (opened n s)) z in
        let f : Fresh (effect (opened n s) edit) (edit_after edit s) = subst (λ x. Fresh x (edit_after edit s)) q r.2 in (
          answer_ext _ _ z refl
              (r.1.value
              ∙ ap (λ k. decided k (edge_count (effect (opened n s) edit)) 0) z
              ∙ sum_cong n _ _ (λ i hi. sum_cong n _ _ (λ j hj. one_edge_lem i j hi hj))),
          record { valid = r.3; edges = λ i j hi hj. f.bits i j hi hj ∙ after_is i j hi hj },
        )

  -- of no edge named the test f is true, which decides of the edges listed what P says
  none_named : (g : Edges) (f : ℕ → Bool) (P : ℕ → Type 0) → ((x : ℕ) → Reflects (f x) (P x)) → some_edge n g (λ i j. f (edges_of l i j)) ≡ false
      → ¬ (SomeEdge n g (λ i j. P (mult_at n s i j)))
  none_named g f P h e =
      (reflects_false (some_edge_reflects n g (λ i j. f (edges_of l i j)) (λ i j. P (mult_at n s i j)) (λ i j hi hj. rw (o.edges i j hi hj) (h (edges_of l i j))))).0 e

  module _ (g : Edges) (ok : first_true (argued_tests n g []) ≡ 0) (m : List (ℕ × ℕ)) where
    -- the arguments are in order
    in_order : First (argued n g []) 0
    in_order = rw ok at (first_true_lem (argued n g []) (argued_tests n g []) (argued_agree n g [] [] (λ a. tt)))

    -- ---- an insertion: no edge named runs from a vertex to itself, and none is there

    module _ (becomes : same n (λ i j. changed true (named g i j) (edges_of l i j)) (edges_of m) ≡ true)
        (noLoop : some_edge n g eqb ≡ false) (new : some_edge n g (λ i j. leb most_parallel (edges_of l i j)) ≡ false) where
      abbrev insertion : Edit
      insertion = record { inserts = true; vertices = n; edges = g }

      abbrev Closed : Type 0
      Closed = Cycle n (effect (opened n s) insertion).edge

      closed_iff : (((edit_answer insertion s).number ≡ 8) ↔ Closed) × (((edit_answer insertion s).number ≡ 0) ↔ (¬ Closed))
      closed_iff =
          edit_cycle_iff n s o.valid g in_order ((reflects_false (some_edge_reflects n g eqb (λ i j. i ≡ j) (λ i j hi hj. reflects_eq i j))).0 noLoop)
          (none_named g (leb most_parallel) (λ x. most_parallel ≤ x) (reflects_le most_parallel) new)

      -- if the edges m have a cycle, it is refused by 8, and no word is changed
      pub known_closes : Cycle n (edges_of m) → (edit_answer insertion s ≡ answer 8 0 0) × (edit_after insertion s ≡ s)
      known_closes c =
          refused_by _ s _ (closed_iff.0.1 (cycle_cong n (edges_of m) _ (λ i j hi hj. sym (after_is true g m becomes i j hi hj)) c))
          (edit_refused insertion s)

      -- if every edge of m rises, it is accepted
      pub known_inserts : (h : ℕ → ℕ) → same n (λ i j. one_if (listed m i j && ltb (h i) (h j))) (edges_of m) ≡ true
          → (edit_answer insertion s ≡ answer 0 0 (sum n (λ i. sum n (edges_of m i)))) × SheetOf n m (edit_after insertion s)
      known_inserts h e =
          leaves true g m becomes
          (closed_iff.1.1
          (λ c. rising_acyclic n (edges_of m) h (λ i j hi hj p. rises (h i) (h j) (listed m i j) p (same_of n _ _ e i j hi hj))
          (cycle_cong n _ (edges_of m) (after_is true g m becomes) c)))

    -- ---- a deletion: every edge named is there

    pub known_deletes : same n (λ i j. changed false (named g i j) (edges_of l i j)) (edges_of m) ≡ true → some_edge n g (λ i j. eqb (edges_of l i j) 0) ≡ false →
        let deletion : Edit = record { inserts = false; vertices = n; edges = g } in
        (edit_answer deletion s ≡ answer 0 0 (sum n (λ i. sum n (edges_of m i)))) × SheetOf n m (edit_after deletion s)
    known_deletes becomes there = leaves false g m becomes (first_rest (none_named g (λ x. eqb x 0) (λ x. x ≡ 0) (λ x. reflects_eq x 0) there) (edit_effects n s o.valid false g in_order))

-- there is one sheet of these edges
pub known_only : (n : ℕ) (l : List (ℕ × ℕ)) (s t : Lent) → SheetOf n l s → SheetOf n l t → s ≡ t
known_only n l s t o p =
    fresh_only n (edge_at s.words) (edge_at t.words) s t (λ i j hi hj. o.edges i j hi hj ∙ sym (p.edges i j hi hj))
    (valid_modelled o.valid).fresh (valid_modelled p.valid).fresh
