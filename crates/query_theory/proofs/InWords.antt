-- WHAT THIS CRATE'S DEFINITIONS SAY, spelled out in document 01's words: over words, bits, paths and places, and with the numbers
-- written out. A definition that is changed, together with the code that follows it, fails here. Assumes nothing.
use mathlib.Core.Path.{◌≡◌, refl, sym, ap, subst, ◌∙◌}
use mathlib.Core.Logic.{◌⊎◌, inl, inr, ◌↔◌}
use mathlib.Core.Bool.{true, false, false≢true}
use mathlib.Core.List.{List, [], ◌∷◌}
use Prim.Native.Nat.{ℕ, suc, ◌+◌, ◌-◌, ◌*◌, ◌%◌, ◌^◌, ◌≤◌, ◌<◌}
use native.Mathlib.Nat.{zero-mul, mul-zero, lt_of_not-le}
use native.Mathlib.Decide.{ℕ_discrete, dec_lt}
use native.Mathlib.Omega.{arith}
use borrow.Author.Tests.{eq-eqb, ne_eqb}
use lib.ListN.{length, get_or}
use Rattle.sums.specs.Sum.{sum, delta}
use Rattle.sums.proofs.SumLaws.{delta_refl, delta_diff}
use Rattle.word.specs.Bit.{bit}
use Rattle.graph.specs.Graph.{Exactly, Walk, IsPath, PathsWithExactly}
use Rattle.graph.specs.Uses.{one_edge}
use Rattle.graph.proofs.Lists.{exactly_cong}
use Rattle.graph.proofs.Counting.{walk_path}
use Rattle.graph.proofs.Using.{path_unnamed_iff}
use Rattle.text.specs.Text.{written}
use Rattle.text.proofs.TextLaws.{written_length, written_after, written_at}
use Rattle.answer.specs.declared.Answer.{Answer}
use Rattle.answer.specs.Table.{◌gives◌, Conditions, First}
use Rattle.sheet_theory.specs.Lent.{Lent}
use Rattle.sheet_theory.specs.Conditions.{vertex_conditions, sized}
use Rattle.sheet_theory.specs.Valid.{Valid}
use Rattle.sheet_theory.proofs.ValidLaws.{edge_le, valid_count}
use Rattle.answer.proofs.TableLaws.{first_both, first_cong, first_under}
use Rattle.answer.proofs.AnswerLaws.{decided_new, decided_old, answer_ext}
use Rattle.answer.proofs.ByNumber.{first_not}
use Rattle.query_theory.specs.Before.{Before}
use Rattle.query_theory.specs.Walk.{walked}
use Rattle.query_theory.specs.PassedOver.{passed_over, end}
use Rattle.query_theory.specs.ReachesWithout.{reaches_without, reaches_without_answer, PathWithout}
use Rattle.query_theory.specs.Unrank.{unrank_conditions, unrank_answer, unrank_after}
use Rattle.query_theory.specs.Rank.{SomeNoVertex, Gap, Broken, path_conditions, rank_conditions, rank_answer}
use Rattle.query_theory.proofs.BeforeLaws.{before_first}
use Rattle.query_theory.proofs.RankLaws.{walked_path, before_exactly}
use Rattle.query_theory.proofs.ByPlace.{some_no_vertex_places, gap_places, end_places, passed_over_places}
use Rattle.query_theory.proofs.WalkPlaces.{Arrives, walked_places}
use Rattle.query_theory.proofs.Refusals.{length_empty, reaches_without_first, unrank_first, rank_first}
use Rattle.query_theory.proofs.Meaning.{reaches_without_iff, unrank_arrives, rank_exact}

-- l comes before p in the order of paths: its vertex is the lower at the first place where they differ
abbrev Lower : List ℕ → List ℕ → Type 0
Lower l p = (x : ℕ) × (x < length l) × (x < length p) × ((y : ℕ) → y < x → get_or l y 0 ≡ get_or p y 0) × (get_or l x 0 < get_or p x 0)

lower_iff : (l p : List ℕ) → Before l p ↔ Lower l p
lower_iff l p = (
  λ b. let r = (before_first l p).0 b in (r.0, r.1.0, r.1.1, r.1.2, r.1.3),
  λ r. (before_first l p).1 (r.0, (r.1, r.2, r.3, r.4)),
)

module _ (n : ℕ) (s : Lent) where
  -- bit j of row i, which is 1 exactly if an edge runs from i to j, and the count from i to j
  abbrev edge : ℕ → ℕ → ℕ
  edge i j = bit (get_or s.words i 0) j

  abbrev count : ℕ → ℕ → ℕ
  count i j = get_or s.words (n + i * n + j) 0

  -- p is the path of rank k from i to j: k paths come before it
  abbrev Ranked : ℕ → ℕ → ℕ → List ℕ → Type 0
  Ranked i j k p = IsPath n edge i j p × Exactly (λ l. IsPath n edge i j l × Lower l p) k

  ranked_of : (i j k : ℕ) (p : List ℕ) → IsPath n edge i j p → PathsWithExactly n edge i j (λ l. Before l p) k → Ranked i j k p
  ranked_of i j k p h e = (h, exactly_cong (λ l q. (q.0, (lower_iff l p).0 q.1)) (λ l q. (q.0, (lower_iff l p).1 q.1)) e)

  -- ---- supply without an edge

  module _ (i j u v : ℕ) where
    -- 3: one of the four is n or more. 7: the edge is not there.
    abbrev named : Conditions → Conditions
    named l = ((n ≤ i) ⊎ (n ≤ j) ⊎ (n ≤ u) ⊎ (n ≤ v)) gives 3 ∷ l

    abbrev there : Conditions
    there = (edge u v ≡ 0) gives 7 ∷ []

    -- 3 looked for in i and j, and then in u and v, is 3 looked for in all four
    four : (l : Conditions) (k : ℕ) → First (vertex_conditions n i j (vertex_conditions n u v l)) k → First (named l) k
    four l k (inl (inl h, e)) = inl (inl h, e)
    four l k (inl (inr h, e)) = inl (inr (inl h), e)
    four l k (inr (d, inl (c, e))) = inl (inr (inr c), e)
    four l k (inr (d, inr (c, f))) = inr (λ q. elim q [ inl h ↦ d (inl h) | inr q ↦ elim q [ inl h ↦ d (inr h) | inr h ↦ c h ] ], f)

    differs : ((¬ (count i u * count v j % 2 ^ 64 ≡ count i j)) × (reaches_without n s i j u v ≡ 1))
        ⊎ ((count i u * count v j % 2 ^ 64 ≡ count i j) × (reaches_without n s i j u v ≡ 0))
    unfolding reaches_without
    differs = elim (ℕ_discrete (count i u * count v j % 2 ^ 64) (count i j)) [ yes e ↦ inr (e, rw (eq-eqb _ _ e)) | no d ↦ inl (d, rw (ne_eqb _ _ d)) ]

    -- the value is 1 if the product differs from the count, and 0 if not
    pub reaches_without_words :
        let r = reaches_without_answer n s i j u v in
        First (sized n s (named there)) r.number
        × (r.place ≡ 0)
        × (r.number ≡ 0 → ((¬ (count i u * count v j % 2 ^ 64 ≡ count i j)) × (r.value ≡ 1)) ⊎ ((count i u * count v j % 2 ^ 64 ≡ count i j) × (r.value ≡ 0)))
        × (¬ (r.number ≡ 0) → r.value ≡ 0)
    reaches_without_words = (
      first_under (sized n s []) (vertex_conditions n i j (vertex_conditions n u v there)) (named there) _ (four there _) (reaches_without_first n s i j u v).first,
      refl,
      λ z. let e = decided_new _ (reaches_without n s i j u v) 0 z in elim differs [ inl d ↦ inl (d.0, e ∙ d.1) | inr d ↦ inr (d.0, e ∙ d.1) ],
      decided_old _ _ 0,
    )

    -- the edges without the one from u to v
    abbrev others : ℕ → ℕ → ℕ
    others a b = edge a b - delta a u * delta b v

    others_gone : (a b : ℕ) → one_edge u v a b ≡ true → others a b ≡ 0
    others_gone a b h =
        elim (ℕ_discrete a u) [
          | yes p ↦ elim (ℕ_discrete b v) [
            | yes q ↦ rw (p, q, delta_refl u, delta_refl v) (omega (arith, edge_le s.words u v))
            | no q ↦ absurd (false≢true (rw (eq-eqb a u p, ne_eqb b v q) at h))
          ]
          | no p ↦ absurd (false≢true (rw (ne_eqb a u p) at h))
        ]

    others_kept : (a b : ℕ) → one_edge u v a b ≡ false → others a b ≡ edge a b
    others_kept a b h =
        elim (ℕ_discrete a u) [
          | yes p ↦ elim (ℕ_discrete b v) [
            | yes q ↦ absurd (false≢true (sym (rw (eq-eqb a u p, eq-eqb b v q) at h)))
            | no q ↦ rw (delta_diff b v q) (simp mul-zero (omega arith))
          ]
          | no p ↦ rw (delta_diff a u p) (simp zero-mul (omega arith))
        ]

    -- a path over the others is a path that does not use that edge
    others_path : ((l : List ℕ) × IsPath n others i j l) ↔ PathWithout n s i j u v
    others_path =
        let e = path_unnamed_iff n others edge (one_edge u v) (λ a b ha hb. others_gone a b) (λ a b ha hb. others_kept a b) i j in (
          λ p. let q = (e p.0).0 p.1 in (p.0, q.0, q.1),
          λ p. (p.0, (e p.0).1 (p.1, p.2)),
        )

    -- on a valid sheet it is 1 if there is a path over the other edges, and 0 if there is none
    pub reaches_without_valid_words : Valid n s →
        let r = reaches_without_answer n s i j u v in
        r.number ≡ 0 → (((l : List ℕ) × IsPath n (λ a b. edge a b - delta a u * delta b v) i j l) × (r.value ≡ 1))
        ⊎ ((¬ ((l : List ℕ) × IsPath n (λ a b. edge a b - delta a u * delta b v) i j l)) × (r.value ≡ 0))
    reaches_without_valid_words valid z =
        let f = subst (First (sized n s (named there))) z reaches_without_words.0 in
        let d = first_not (sized n s (named there)) 0 f 3 refl in
        let g = first_not (sized n s (named there)) 0 f 7 refl in
        let iff = reaches_without_iff n s valid i j u v
        (lt_of_not-le (λ l. d (inl l))) (lt_of_not-le (λ l. d (inr (inl l)))) (lt_of_not-le (λ l. d (inr (inr (inl l))))) (lt_of_not-le (λ l. d (inr (inr (inr l)))))
        (lt_of_not-le (λ l. g (omega arith))) in
        elim (reaches_without_words.2 z) [
          | inl c ↦ inl (others_path.1 (iff.0.0 (answer_ext _ _ z refl c.1)), c.1)
          | inr c ↦ inr (λ p. iff.1.0 (answer_ext _ _ z refl c.1) (others_path.0 p), c.1)
        ]

  -- ---- the path of a rank

  module _ (i j k : ℕ) where
    -- p is the walk from i to j by the rank k, of at most n vertices, of which the last alone is j; `left x` is what is left of k at the place
    -- x. At each step the counts to j from the neighbours below the next vertex are taken off, and what is left is below the count from the
    -- next; at j nothing is left.
    abbrev IsWalk : List ℕ → Type 0
    IsWalk p =
        let at : ℕ → ℕ = λ x. get_or p x 0 in
        let last : ℕ = length p - 1 in
        (left : ℕ → ℕ) × (0 < length p) × (length p ≤ n) × (at 0 ≡ i) × (left 0 ≡ k) × (at last ≡ j) × (left last ≡ 0)
        × ((x : ℕ) → x < last → (¬ (at x ≡ j)) × (at (suc x) < n) × (edge (at x) (at (suc x)) ≡ 1) × (left (suc x) < count (at (suc x)) j)
        × (left x ≡ sum (at (suc x)) (λ b. edge (at x) b * count b j) + left (suc x)))

    is_walk : (p : List ℕ) → ((left : ℕ → ℕ) × Arrives n edge count j n i k p left) ↔ IsWalk p
    is_walk p = (
      λ a.
          let r = a.1 in
          let last = r.to (length p - 1) (omega (arith, r.some)) in (
            a.0,
            r.some,
            r.short,
            r.from,
            r.whole,
            last.0,
            last.1,
            λ x h.
                let t = r.steps x (omega arith) in
                (t.away, t.vertex, omega (arith, t.edge, edge_le s.words (get_or p x 0) (get_or p (suc x) 0)), t.below, t.taken),
          ),
      λ a. (
        a.0,
        record {
          some = a.1;
          short = a.2;
          from = a.3;
          whole = a.4;
          steps = λ x h. let t = a.7 x (omega arith) in record { away = t.0; vertex = t.1; edge = omega (arith, t.2); taken = t.4; below = t.3 };
          to = λ x h. let e : x ≡ length p - 1 = omega arith in rw e (a.5, a.6);
        },
      ),
    )

    -- that is what `walked` gives, and where there is no such walk it gives no vertices
    pub walked_words : (p : List ℕ) → ((walked edge count j n n i k ≡ p) × (0 < length p)) ↔ IsWalk p
    walked_words p =
        let e = walked_places n edge count j (edge_le s.words) n i k p in
        let f = is_walk p in
        (λ h. f.0 (e.0 h), λ h. e.1 (f.1 h))

    -- a list that is not empty has an entry
    has_some : (p : List ℕ) → ¬ (p ≡ []) → 0 < length p
    has_some [] d = absurd (d refl)
    has_some (a ∷ p) d = omega arith

    none_iff : (walked edge count j n n i k ≡ []) ↔ (¬ ((p : List ℕ) × IsWalk p))
    none_iff =
        let p = walked edge count j n n i k in (
          λ e a. let q = (walked_words a.0).1 a.1 in omega (arith, q.1, ap length (sym q.0 ∙ e)),
          λ d. elim (dec_lt 0 (length p)) [ yes h ↦ absurd (d (p, (walked_words p).0 (refl, h))) | no h ↦ length_empty p (omega arith) ],
        )

    module _ (before : List ℕ) where
      abbrev r : Answer
      r = unrank_answer n s i j k (length before)

      abbrev after : List ℕ
      after = unrank_after n s i j k before

      -- 3: one of the two is n or more. 10: the buffer is under n bytes. 11: k is not below the count. And then the conditions l.
      abbrev looked : Conditions → Conditions
      looked l = ((n ≤ i) ⊎ (n ≤ j)) gives 3 ∷ (length before < n) gives 10 ∷ (count i j ≤ k) gives 11 ∷ l

      -- 9: there is no such walk
      abbrev astray : Conditions
      astray = (¬ ((p : List ℕ) × IsWalk p)) gives 9 ∷ []

      -- an accepted call finds a walk; the value is how many vertices it has, these fill the first places of the buffer, and the rest are
      -- unchanged; a refusal changes none
      pub unrank_words :
          First (sized n s (looked astray)) r.number
          × (r.place ≡ 0)
          × (r.number ≡ 0 → (p : List ℕ) × IsWalk p × (r.value ≡ length p) × (length after ≡ length before)
          × ((x : ℕ) → length p ≤ x → get_or after x 0 ≡ get_or before x 0) × ((x : ℕ) → x < length p → get_or after x 0 ≡ get_or p x 0))
          × (¬ (r.number ≡ 0) → (r.value ≡ 0) × (after ≡ before))
      unrank_words =
          let p = walked edge count j n n i k in
          let cs : Conditions = unrank_conditions n s i j k (length before) in
          let f : First cs r.number = (unrank_first n s i j k (length before)).first in (
            first_under (sized n s (looked [])) ((p ≡ []) gives 9 ∷ []) astray _ (first_both none_iff (λ h. h)) f,
            refl,
            λ z.
                let e : after ≡ written p before = decided_new _ (written p before) before z in
                let g = subst (First cs) z f in
                let w = (walked_words p).0 (refl, has_some p (first_not cs 0 g 9 refl)) in
                let room : length p ≤ length before = omega (arith, w.2, first_not cs 0 g 10 refl) in
                (p, w, decided_new _ _ 0 z, rw e (written_length p before room), rw e (written_after p before), rw e (written_at p before)),
            λ d. (decided_old _ _ 0 d, decided_old _ _ before d),
          )

      -- on a valid sheet there is one, and it is the path of rank k
      pub unrank_valid_words : Valid n s → (¬ (r.number ≡ 9)) × (r.number ≡ 0 → (p : List ℕ) → IsWalk p → Ranked i j k p)
      unrank_valid_words valid = (
        unrank_arrives n s valid i j k (length before),
        λ z p h.
            let cs : Conditions = unrank_conditions n s i j k (length before) in
            let f = subst (First cs) z (unrank_first n s i j k (length before)).first in
            let d = first_not cs 0 f 3 refl in
            let w = walked_path n edge count valid.acyclic (edge_le s.words) (valid_count n s valid) i j k
            (lt_of_not-le (λ l. d (inl l))) (lt_of_not-le (λ l. d (inr l))) (lt_of_not-le (first_not cs 0 f 11 refl)) in
            let q = walked edge count j n n i k in
            subst (Ranked i j k) ((walked_words p).1 h).0
            (ranked_of i j k q w.0
            (subst (PathsWithExactly n edge i j (λ l. Before l q)) w.1
            (before_exactly n edge count valid.acyclic (edge_le s.words) (valid_count n s valid) i j q w.0))),
      )

  -- ---- the rank of a path

  -- vertices with an edge between each two neighbours are those of a walk
  unbroken_walk : (a : ℕ) (l : List ℕ) → ¬ (SomeNoVertex n (a ∷ l)) → ¬ (Gap s.words (a ∷ l)) → Walk n edge a l (end (a ∷ l))
  unfolding end
  unbroken_walk a [] d g = refl
  unbroken_walk a (b ∷ l) d g = (
    lt_of_not-le (λ h. d (b, inr (inl refl), h)),
    lt_of_not-le (λ h. g (inl (omega arith))),
    unbroken_walk b l (λ q. d (q.0, inr q.1, q.2)) (λ q. g (inr q)),
  )

  unbroken_path : Valid n s → (p : List ℕ) → ¬ (SomeNoVertex n p) → ¬ (Broken n s.words p) → IsPath n edge (get_or p 0 0) (end p) p
  unbroken_path valid [] d g = absurd (g (inl refl))
  unbroken_path valid (a ∷ l) d g =
      walk_path n edge valid.acyclic a l (end (a ∷ l)) (lt_of_not-le (λ h. d (a, inl refl, h))) (unbroken_walk a l d (λ q. g (inr (inr q))))

  module _ (p : List ℕ) where
    -- the vertex at a place, and the last
    abbrev at : ℕ → ℕ
    at x = get_or p x 0

    abbrev last : ℕ
    last = at (length p - 1)

    -- 3: a byte is n or more. 12: no vertices, more than n, or two neighbours without an edge.
    abbrev NoPath : Type 0
    NoPath = (length p ≡ 0) ⊎ (n < length p) ⊎ ((x : ℕ) × (suc x < length p) × (edge (at x) (at (suc x)) ≡ 0))

    abbrev given : Conditions
    given = ((x : ℕ) × (x < length p) × (n ≤ at x)) gives 3 ∷ NoPath gives 12 ∷ []

    no_path_iff : Broken n s.words p ↔ NoPath
    no_path_iff =
        let e = gap_places s.words p in (
          λ q. elim q [ inl z ↦ inl z | inr q ↦ elim q [ inl h ↦ inr (inl h) | inr g ↦ inr (inr (e.0 g)) ] ],
          λ q. elim q [ inl z ↦ inl z | inr q ↦ elim q [ inl h ↦ inr (inl h) | inr g ↦ inr (inr (e.1 g)) ] ],
        )

    given_first : (k : ℕ) → First (path_conditions n s p) k → First given k
    given_first k = first_cong 3 (Broken n s.words p gives 12 ∷ []) (NoPath gives 12 ∷ []) k (some_no_vertex_places n p) (first_cong 12 [] [] k no_path_iff (λ f. f))

    -- the value is the sum, modulo 2 ^ 64, of the counts to the last vertex that are passed over from each vertex to the next
    pub rank_words :
        let r = rank_answer n s p in
        First (sized n s given) r.number
        × (r.place ≡ 0)
        × (r.number ≡ 0 → r.value ≡ sum (length p - 1) (λ x. sum (at (suc x)) (λ b. edge (at x) b * count b last)) % 2 ^ 64)
        × (¬ (r.number ≡ 0) → r.value ≡ 0)
    rank_words = (
      first_under (sized n s []) (path_conditions n s p) given _ (given_first _) (rank_first n s p).first,
      refl,
      λ z.
          decided_new _ _ 0 z
          ∙ ap (λ x. x % 2 ^ 64) (ap (λ j. passed_over edge count j p) (end_places p) ∙ passed_over_places edge count last p),
      decided_old _ _ 0,
    )

    -- on a valid sheet it is the rank
    pub rank_valid_words : Valid n s → let r = rank_answer n s p in r.number ≡ 0 → Ranked (at 0) last r.value p
    rank_valid_words valid z =
        let f = subst (First (rank_conditions n s p)) z (rank_first n s p).first in
        let h : IsPath n edge (at 0) last p
        = subst (λ j. IsPath n edge (at 0) j p) (end_places p)
        (unbroken_path valid p (first_not (rank_conditions n s p) 0 f 3 refl) (first_not (rank_conditions n s p) 0 f 12 refl)) in
        ranked_of (at 0) last _ p h (rank_exact n s valid (at 0) last p h).1
