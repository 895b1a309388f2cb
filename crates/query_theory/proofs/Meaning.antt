-- WHAT THE CALLS MEAN: on any sheet, that `rank` of what `unrank` wrote for k is k; on a valid one, in terms of paths and of their order.
-- Assumes nothing.
use mathlib.Core.Path.{◌≡◌, refl, sym, ap, ap₂, subst, ◌∙◌}
use mathlib.Core.Logic.{◌⊎◌, inl, inr, ◌↔◌}
use mathlib.Core.Bool.{true}
use mathlib.Core.List.{List, [], ◌∷◌}
use Prim.Native.Nat.{ℕ, ◌+◌, ◌*◌, ◌%◌, ◌^◌, ◌≤◌, ◌<◌}
use native.Mathlib.Nat.{mod-eq_of_lt, lt_of_not-le, lt_trans}
use native.Mathlib.Decide.{ℕ_discrete, dec_lt}
use native.Mathlib.Omega.{arith}
use lib.ListN.{length, take, drop}
use lib.Seq.{take-append_seam}
use Rattle.graph.specs.Graph.{Edge, Walk, IsPath, PathsExactly, PathsWithExactly}
use Rattle.graph.specs.Count.{path_count}
use Rattle.graph.specs.Uses.{Uses, one_edge}
use Rattle.graph.proofs.Lists.{exactly_only}
use Rattle.graph.proofs.Walks.{walk_below, path_length_le}
use Rattle.graph.proofs.Bound.{paths_below}
use Rattle.graph.proofs.Through.{through_le, paths_through, path_without_iff}
use Rattle.text.specs.Text.{written}
use Rattle.answer.specs.declared.Answer.{Answer}
use Rattle.answer.specs.Table.{Conditions, First}
use Rattle.answer.specs.Answers.{answer, decided, answered}
use Rattle.sheet_theory.specs.Layout.{count_at, edge_at}
use Rattle.sheet_theory.specs.Lent.{Lent, Lends, mult_at}
use Rattle.sheet_theory.specs.Conditions.{NoVertex, vertex_conditions}
use Rattle.sheet_theory.specs.Valid.{Valid}
use Rattle.answer.proofs.ByNumber.{condition_of, before, first_not, first_when}
use Rattle.sheet_theory.proofs.ShapeLaws.{shape_not, shape_passed, shape_rest}
use Rattle.sheet_theory.proofs.ValidLaws.{edge_le, valid_count}
use Rattle.query_theory.specs.Before.{Before}
use Rattle.query_theory.specs.PassedOver.{passed_over, end}
use Rattle.query_theory.specs.ReachesWithout.{edge_conditions, reaches_without_number, product, reaches_without_answer, PathWithout}
use Rattle.query_theory.specs.Unrank.{walk, buffer_conditions, walk_conditions, unrank_conditions, unrank_number, unrank_answer, unrank_after, wrote}
use Rattle.query_theory.specs.Rank.{SomeNoVertex, Gap, Broken, path_conditions, rank_answer}
use Rattle.query_theory.proofs.RankLaws.{walked_finds, path_ends, passed_over_lt, path_walked, walked_path, before_exactly}
use Rattle.query_theory.proofs.WithoutLaws.{without_no, without_yes}
use Rattle.query_theory.proofs.Refusals.{reaches_without_first, reaches_without_table, unrank_first, unrank_table, rank_table}

-- ---- any sheet

module _ (n : ℕ) (s : Lent) where
  walk_end_is : (a : ℕ) (l : List ℕ) (j : ℕ) → Walk n (edge_at s.words) a l j → end (a ∷ l) ≡ j
  unfolding end
  walk_end_is a [] j e = e
  walk_end_is a (b ∷ l) j p = walk_end_is b l j p.2

  walk_no_gap : (a : ℕ) (l : List ℕ) (j : ℕ) → Walk n (edge_at s.words) a l j → ¬ (Gap s.words (a ∷ l))
  walk_no_gap a [] j p g = g
  walk_no_gap a (b ∷ l) j p g = elim g [ inl z ↦ omega (arith, p.1) | inr q ↦ walk_no_gap b l j p.2 q ]

  -- a walk of at most n vertices is accepted by `rank`
  module _ (shape : Lends n s) (a : ℕ) (l : List ℕ) (j : ℕ) (ha : a < n) (p : Walk n (edge_at s.words) a l j) (short : length l < n) where
    walk_vertices : ¬ (SomeNoVertex n (a ∷ l))
    walk_vertices (x, m, h) = let b : x < n = elim m [ inl e ↦ rw e ha | inr r ↦ walk_below n (edge_at s.words) a l j p x r ] in omega arith

    walk_unbroken : ¬ (Broken n s.words (a ∷ l))
    walk_unbroken q = elim q [ inl z ↦ omega arith | inr r ↦ elim r [ inl h ↦ omega arith | inr g ↦ walk_no_gap a l j p g ] ]

    walk_ranked : rank_answer n s (a ∷ l) ≡ answer 0 0 (passed_over (edge_at s.words) (count_at n s.words) j (a ∷ l) % 2 ^ 64)
    walk_ranked =
        let cs : Conditions = path_conditions n s (a ∷ l) in
        let z : (rank_answer n s (a ∷ l)).number ≡ 0
        = (rank_table n s (a ∷ l) 0).1 (shape_passed n s shape cs 0 (inr (walk_vertices, inr (walk_unbroken, refl)))) in
        ap₂ answered z (ap (λ x. passed_over (edge_at s.words) (count_at n s.words) x (a ∷ l) % 2 ^ 64) (walk_end_is a l j p))

  -- an accepted call writes the walk and answers how long it is
  unrank_answer_lem : (i j k : ℕ) (buffer : List ℕ) → unrank_number n s i j k (length buffer) ≡ 0
      → (unrank_answer n s i j k (length buffer) ≡ answer 0 0 (length (walk n s.words i j k))) × (unrank_after n s i j k buffer ≡ written (walk n s.words i j k) buffer)
  unrank_answer_lem i j k buffer z =
      (ap (λ m. answered m (length (walk n s.words i j k))) z, ap (λ m. decided m (written (walk n s.words i j k) buffer) buffer) z)

  -- so what it writes is the walk
  wrote_walk : (i j k : ℕ) (buffer : List ℕ) → unrank_number n s i j k (length buffer) ≡ 0 → wrote n s i j k buffer ≡ walk n s.words i j k
  wrote_walk i j k buffer z =
      let u = unrank_answer_lem i j k buffer z in
      ap₂ take (ap (λ (x : Answer). x.value) u.0) u.1 ∙ take-append_seam (walk n s.words i j k) (drop (length (walk n s.words i j k)) buffer)

  -- what is known where the number is 0 or 9
  record Asked (i j k len : ℕ) : Type 0 where
    shape : Lends n s
    from : i < n
    to : j < n
    room : n ≤ len
    below : k < count_at n s.words i j

  asked : (i j k len m : ℕ) → (m ≡ 0) ⊎ (m ≡ 9) → (unrank_answer n s i j k len).number ≡ m → Asked i j k len
  asked i j k len m c e =
      let cs : Conditions = unrank_conditions n s i j k len in
      let none : (r : ℕ) → before cs r 0 ≡ true → before cs r 9 ≡ true → ¬ (condition_of cs r)
      = λ r a b. elim c [
        | inl z ↦ first_not cs 0 ((unrank_table n s i j k len 0).0 (e ∙ z)) r a
        | inr z ↦ first_not cs 9 ((unrank_table n s i j k len 9).0 (e ∙ z)) r b
      ] in
      record {
        shape = shape_not n s (none 1 refl refl) (none 2 refl refl);
        from = lt_of_not-le (λ l. none 3 refl refl (inl l));
        to = lt_of_not-le (λ l. none 3 refl refl (inr l));
        room = elim (dec_lt len n) [ yes l ↦ absurd (none 10 refl refl l) | no l ↦ omega arith ];
        below = lt_of_not-le (none 11 refl refl);
      }

  -- the rank of what is written by k is k
  pub rank_unrank : (i j k : ℕ) (buffer : List ℕ) → k < 2 ^ 64 → (unrank_answer n s i j k (length buffer)).number ≡ 0
      → rank_answer n s (wrote n s i j k buffer) ≡ answer 0 0 k
  rank_unrank i j k buffer small z =
      let a = asked i j k (length buffer) 0 (inl refl) z in
      elim (walked_finds n (edge_at s.words) (count_at n s.words) (edge_le s.words) n i j k) [
        | inl e ↦ absurd (first_not (unrank_conditions n s i j k (length buffer)) 0 ((unrank_table n s i j k (length buffer) 0).0 z) 9 refl e)
        | inr f ↦
            ap (rank_answer n s) (wrote_walk i j k buffer z ∙ f.vertices)
            ∙ walk_ranked a.shape i f.l j a.from f.walk f.short
            ∙ ap (answer 0 0) (ap (λ x. x % 2 ^ 64) f.rank ∙ mod-eq_of_lt small)
      ]

module _ (n : ℕ) (s : Lent) (valid : Valid n s) where
  -- the rank of a path to j
  abbrev rank_to : ℕ → List ℕ → ℕ
  rank_to j l = passed_over (edge_at s.words) (count_at n s.words) j l

  -- the walk by a rank below the count is a path, and its rank is that rank
  walk_path_over : (i j k : ℕ) → i < n → j < n → k < count_at n s.words i j → IsPath n (edge_at s.words) i j (walk n s.words i j k) × (rank_to j (walk n s.words i j k) ≡ k)
  walk_path_over = walked_path n (edge_at s.words) (count_at n s.words) valid.acyclic (edge_le s.words) (valid_count n s valid)

  -- the walk by the rank of a path is that path
  walk_rank : (i j : ℕ) (l : List ℕ) → IsPath n (edge_at s.words) i j l → walk n s.words i j (rank_to j l) ≡ l
  walk_rank = path_walked n (edge_at s.words) (count_at n s.words) valid.acyclic (edge_le s.words) (valid_count n s valid)

  rank_lt : (i j : ℕ) (l : List ℕ) → IsPath n (edge_at s.words) i j l → rank_to j l < count_at n s.words i j
  rank_lt = passed_over_lt n (edge_at s.words) (count_at n s.words) valid.acyclic (edge_le s.words) (valid_count n s valid)

  rank_exactly : (i j : ℕ) (l : List ℕ) → IsPath n (edge_at s.words) i j l → PathsWithExactly n (edge_at s.words) i j (λ p. Before p l) (rank_to j l)
  rank_exactly = before_exactly n (edge_at s.words) (count_at n s.words) valid.acyclic (edge_le s.words) (valid_count n s valid)

  -- ---- reaches_without

  module _ (i j u v : ℕ) (hi : i < n) (hj : j < n) (hu : u < n) (hv : v < n) (edge : Edge n (mult_at n s) u v) where
    -- the product is at most the count, which fits a word, so nothing is lost modulo 2 ^ 64
    product_fits : product n s.words i j u v ≡ path_count n (edge_at s.words) i u * path_count n (edge_at s.words) v j
    product_fits =
        let le = through_le n (edge_at s.words) valid.acyclic (λ x y hx hy. edge_le s.words x y) u v hu hv edge i j hi hj in
        let e : count_at n s.words i j ≡ path_count n (edge_at s.words) i j = valid_count n s valid i j hi hj in
        let small = paths_below n (edge_at s.words) valid.acyclic valid.shape.high i j (count_at n s.words i j) hi hj (valid.counts i j hi hj) in
        rw (valid_count n s valid i u hi hu, valid_count n s valid v j hv hj) (mod-eq_of_lt (omega arith))

    -- the paths that use the edge are exactly the product
    pub reaches_without_uses : PathsWithExactly n (mult_at n s) i j (Uses (one_edge u v)) (product n s.words i j u v)
    reaches_without_uses =
        rw product_fits (paths_through n (edge_at s.words) valid.acyclic (λ x y hx hy. edge_le s.words x y) u v hu hv edge i j hi hj)

    -- the product tells whether there is a path without the edge
    without_differs : PathWithout n s i j u v ↔ (¬ (product n s.words i j u v ≡ count_at n s.words i j))
    without_differs =
        rw (product_fits, valid_count n s valid i j hi hj)
        (path_without_iff n (edge_at s.words) valid.acyclic (λ x y hx hy. edge_le s.words x y) u v hu hv edge i j hi hj)

    reaches_without_accepted : reaches_without_number n s i j u v ≡ 0
    reaches_without_accepted =
        let cs : Conditions = edge_conditions n s u v in
        let f : First (vertex_conditions n i j (vertex_conditions n u v cs)) 0
        = inr (λ c. elim c [ inl l ↦ omega arith | inr l ↦ omega arith ], inr (λ c. elim c [ inl l ↦ omega arith | inr l ↦ omega arith ], inr (λ e. omega arith, refl))) in
        (reaches_without_table n s i j u v 0).1 (shape_passed n s valid.shape (vertex_conditions n i j (vertex_conditions n u v cs)) 0 f)

    equal_no : product n s.words i j u v ≡ count_at n s.words i j → reaches_without_answer n s i j u v ≡ answer 0 0 0
    equal_no e = sym (without_no n s i j u v _ (reaches_without_first n s i j u v).first reaches_without_accepted _ _ refl refl e _ refl)

    differs_yes : ¬ (product n s.words i j u v ≡ count_at n s.words i j) → reaches_without_answer n s i j u v ≡ answer 0 0 1
    differs_yes d = sym (without_yes n s i j u v _ (reaches_without_first n s i j u v).first reaches_without_accepted _ _ refl refl d _ refl)

    -- REACHES WITHOUT: the answer is yes exactly if there is a path without the edge, and no exactly if there is none
    pub reaches_without_iff : ((reaches_without_answer n s i j u v ≡ answer 0 0 1) ↔ PathWithout n s i j u v)
        × ((reaches_without_answer n s i j u v ≡ answer 0 0 0) ↔ (¬ (PathWithout n s i j u v)))
    reaches_without_iff =
        let never : answer 0 0 0 ≡ answer 0 0 1 → ⊥ = λ q. let z : ◌≡◌ {A = ℕ} 0 1 = ap (λ (r : Answer). r.value) q in omega arith in
        elim (ℕ_discrete (product n s.words i j u v) (count_at n s.words i j)) [
          | yes e ↦ ((λ q. absurd (never (sym (equal_no e) ∙ q)), λ p. absurd (without_differs.0 p e)), (λ q p. without_differs.0 p e, λ h. equal_no e))
          | no d ↦ ((λ q. without_differs.1 d, λ p. differs_yes d), (λ q. absurd (never (sym q ∙ differs_yes d)), λ h. absurd (h (without_differs.1 d))))
        ]

  -- ---- unrank

  -- of two vertices, the last three conditions give the number
  module _ (i j k len : ℕ) (hi : i < n) (hj : j < n) where
    vertices : ¬ (NoVertex n i ⊎ NoVertex n j)
    vertices c = elim c [ inl l ↦ omega arith | inr l ↦ omega arith ]

    -- the conditions past the vertices
    abbrev past : Conditions
    past = buffer_conditions n s i j k len (walk_conditions n s i j k)

    -- with a buffer of n bytes or more, a rank below the count is accepted
    unrank_good : n ≤ len → k < count_at n s.words i j → unrank_number n s i j k len ≡ 0
    unrank_good room h =
        let p = (walk_path_over i j k hi hj h).0 in
        (unrank_table n s i j k len 0).1
        (shape_passed n s valid.shape (vertex_conditions n i j past) 0 (inr (vertices, inr ((λ l. omega arith), inr ((λ l. omega arith), inr ((λ e. rw e at p), refl))))))

    -- 11 exactly if k is not below the number of paths
    pub unrank_beyond_iff : n ≤ len → (c : ℕ) → PathsExactly n (edge_at s.words) i j c → ((unrank_answer n s i j k len).number ≡ 11) ↔ (c < k + 1)
    unrank_beyond_iff room c x =
        let e : c ≡ count_at n s.words i j = exactly_only x (valid.counts i j hi hj) in
        let f = shape_rest n s valid.shape (vertex_conditions n i j past) _ (unrank_first n s i j k len).first in
        let r = first_when (vertex_conditions n i j past) _ 11 f (vertices, ((λ l. omega arith), tt)) refl in
        (λ q. omega (arith, r.0 q), λ h. r.1 (omega arith))

  -- UNRANK: by a rank below the count a path is written that has exactly that many paths before it
  pub unrank_exact : (i j k : ℕ) (buffer : List ℕ) → i < n → j < n → n ≤ length buffer → k < count_at n s.words i j
      → ((unrank_answer n s i j k (length buffer)).number ≡ 0) × IsPath n (edge_at s.words) i j (wrote n s i j k buffer)
      × PathsWithExactly n (edge_at s.words) i j (λ p. Before p (wrote n s i j k buffer)) k
  unrank_exact i j k buffer hi hj room h =
      let z = unrank_good i j k (length buffer) hi hj room h in
      let r = walk_path_over i j k hi hj h in
      let l = walk n s.words i j k in
      let before : PathsWithExactly n (edge_at s.words) i j (λ p. Before p l) k
      = subst (PathsWithExactly n (edge_at s.words) i j (λ p. Before p l)) r.1 (rank_exactly i j l r.0) in
      let e = sym (wrote_walk n s i j k buffer z) in
      (z, subst (IsPath n (edge_at s.words) i j) e r.0, subst (λ (x : List ℕ). PathsWithExactly n (edge_at s.words) i j (λ p. Before p x) k) e before)

  -- the walk on a valid sheet always arrives
  pub unrank_arrives : (i j k len : ℕ) → ¬ ((unrank_answer n s i j k len).number ≡ 9)
  unrank_arrives i j k len e =
      let r = asked n s i j k len 9 (inr refl) e in
      omega (arith, e, unrank_good i j k len r.from r.to r.room r.below)

  -- each path is written for one rank and no other
  pub unrank_every : (i j : ℕ) (buffer : List ℕ) → n ≤ length buffer → (l : List ℕ) → IsPath n (edge_at s.words) i j l →
      let Writes : ℕ → Type 0 = λ k. ((unrank_answer n s i j k (length buffer)).number ≡ 0) × (wrote n s i j k buffer ≡ l) in
      (k : ℕ) × Writes k × ((k' : ℕ) → Writes k' → k' ≡ k)
  unrank_every i j buffer room l p =
      let h = path_ends n (edge_at s.words) i j l p in
      let z = unrank_good i j (rank_to j l) (length buffer) h.0 h.1 room (rank_lt i j l p) in (
        rank_to j l,
        (z, wrote_walk n s i j (rank_to j l) buffer z ∙ walk_rank i j l p),
        λ k' q.
            let r = asked n s i j k' (length buffer) 0 (inl refl) q.0 in
            sym (walk_path_over i j k' r.from r.to r.below).1 ∙ ap (rank_to j) (sym (wrote_walk n s i j k' buffer q.0) ∙ q.1),
      )

  -- ---- rank

  -- with up to 64 vertices the rank fits a word
  rank_fits : (i j : ℕ) (l : List ℕ) → IsPath n (edge_at s.words) i j l → rank_to j l % 2 ^ 64 ≡ rank_to j l
  rank_fits i j l p =
      let h = path_ends n (edge_at s.words) i j l p in
      mod-eq_of_lt (lt_trans (rank_lt i j l p)
      (paths_below n (edge_at s.words) valid.acyclic valid.shape.high i j (count_at n s.words i j) h.0 h.1 (valid.counts i j h.0 h.1)))

  -- so a path is accepted, with its rank
  rank_answer_lem : (i j : ℕ) (l : List ℕ) → IsPath n (edge_at s.words) i j l → rank_answer n s l ≡ answer 0 0 (rank_to j l)
  rank_answer_lem i j [] p = absurd p
  rank_answer_lem i j (a ∷ l) p =
      walk_ranked n s valid.shape a l j p.1 p.2 (path_length_le n (edge_at s.words) i j (a ∷ l) p) ∙ ap (answer 0 0) (rank_fits i j (a ∷ l) p)

  -- RANK: the value is exactly how many paths are before it
  pub rank_exact : (i j : ℕ) (l : List ℕ) → IsPath n (edge_at s.words) i j l
      → ((rank_answer n s l).number ≡ 0) × PathsWithExactly n (edge_at s.words) i j (λ p. Before p l) (rank_answer n s l).value
  rank_exact i j l p =
      subst (λ (r : Answer). (r.number ≡ 0) × PathsWithExactly n (edge_at s.words) i j (λ p. Before p l) r.value)
      (sym (rank_answer_lem i j l p)) (refl, rank_exactly i j l p)

  -- what is written by the rank of a path is that path
  pub unrank_rank : (i j : ℕ) (l buffer : List ℕ) → IsPath n (edge_at s.words) i j l → n ≤ length buffer →
      let k : ℕ = (rank_answer n s l).value in
      (unrank_answer n s i j k (length buffer) ≡ answer 0 0 (length l)) × (unrank_after n s i j k buffer ≡ written l buffer)
  unrank_rank i j l buffer p room =
      let h = path_ends n (edge_at s.words) i j l p in
      let u = unrank_answer_lem n s i j (rank_to j l) buffer (unrank_good i j (rank_to j l) (length buffer) h.0 h.1 room (rank_lt i j l p)) in
      let e = walk_rank i j l p in
      subst (λ (r : Answer). (unrank_answer n s i j r.value (length buffer) ≡ answer 0 0 (length l)) × (unrank_after n s i j r.value buffer ≡ written l buffer))
      (sym (rank_answer_lem i j l p)) (u.0 ∙ ap (λ x. answer 0 0 (length x)) e, u.1 ∙ ap (λ x. written x buffer) e)
