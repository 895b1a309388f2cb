-- The fields of EveryCall on the questions of a sheet: supply without an edge, the path of a rank, and the rank of a path. Assumes nothing.
use mathlib.Core.Path.{◌≡◌}
use mathlib.Core.Logic.{◌⊎◌, inl, inr}
use mathlib.Core.List.{List, [], ◌∷◌}
use Prim.Native.Nat.{ℕ, suc, ◌-◌, ◌*◌, ◌%◌, ◌^◌, ◌≤◌, ◌<◌}
use lib.ListN.{length, get_or}
use Rattle.sums.specs.Sum.{sum, delta}
use Rattle.graph.specs.Graph.{IsPath}
use Rattle.answer.specs.declared.Answer.{Answer}
use Rattle.answer.specs.Table.{◌gives◌, Conditions, First}
use Rattle.sheet_theory.specs.Lent.{Lent}
use Rattle.sheet_theory.specs.Conditions.{sized}
use Rattle.sheet_theory.specs.Valid.{Valid}
use Rattle.sheet_theory.proofs.InWords.{sized_words}
use Rattle.query_theory.specs.ReachesWithout.{reaches_without_answer}
use Rattle.query_theory.specs.Unrank.{unrank_answer, unrank_after}
use Rattle.query_theory.specs.Rank.{rank_answer}
use Rattle.query_theory.proofs.InWords.{reaches_without_words, reaches_without_valid_words, unrank_words, unrank_valid_words, rank_words, rank_valid_words}
use Rattle.starred.specs.EveryCall.{edge, count, every, Answers, Tells, Ranked, IsWalk, Rest}

-- a name that begins with `SaidOf` is the page's line of a call, said of any answer, and of any bytes that are left
module _ (n : ℕ) (s : Lent) where
  -- an answer by its four parts, with 1 and 2 before the conditions l
  answers_of : {l : Conditions} {r : Answer} {value : Type 0} → First (sized n s l) r.number → r.place ≡ 0
      → (r.number ≡ 0 → value) → (¬ (r.number ≡ 0) → r.value ≡ 0) → Answers (every n s l) r value
  answers_of {l} {r} f p a d = record { number = sized_words n s l r.number f; place = p; accepted = a; refused = d }

  abbrev pub SaidOfReachesWithout : ℕ → ℕ → ℕ → ℕ → Answer → Type 0
  SaidOfReachesWithout i j u v r =
      Answers (every n s (((n ≤ i) ⊎ (n ≤ j) ⊎ (n ≤ u) ⊎ (n ≤ v)) gives 3 ∷ (edge s u v ≡ 0) gives 7 ∷ [])) r
      (Tells r (¬ (count n s i u * count n s v j % 2 ^ 64 ≡ count n s i j)))
      × (Valid n s → r.number ≡ 0 → Tells r ((l : List ℕ) × IsPath n (λ a b. edge s a b - delta a u * delta b v) i j l))

  pub reaches_without_field : (i j u v : ℕ) → SaidOfReachesWithout i j u v (reaches_without_answer n s i j u v)
  reaches_without_field i j u v =
      let w = reaches_without_words n s i j u v in (
        answers_of w.0 w.1 (λ z. elim (w.2 z) [ inl d ↦ inl d | inr e ↦ inr (λ h. h e.0, e.1) ]) w.3,
        reaches_without_valid_words n s i j u v,
      )

  abbrev pub SaidOfUnrank : ℕ → ℕ → ℕ → List ℕ → Answer → List ℕ → Type 0
  SaidOfUnrank i j k before r after =
      let Walk = IsWalk n s i j k in
      Answers (every n s (((n ≤ i) ⊎ (n ≤ j)) gives 3 ∷ (length before < n) gives 10 ∷ (count n s i j ≤ k) gives 11
      ∷ (¬ ((p : List ℕ) × Walk p)) gives 9 ∷ [])) r
      ((p : List ℕ) × Walk p × (r.value ≡ length p) × (Valid n s → Ranked n s i j k p)
      × Rest (length p) before after × ((x : ℕ) → x < length p → get_or after x 0 ≡ get_or p x 0))
      × (¬ (r.number ≡ 0) → after ≡ before) × (Valid n s → ¬ (r.number ≡ 9))

  pub unrank_field : (i j k : ℕ) (before : List ℕ) → SaidOfUnrank i j k before (unrank_answer n s i j k (length before)) (unrank_after n s i j k before)
  unrank_field i j k before =
      let w = unrank_words n s i j k before in
      let valid = unrank_valid_words n s i j k before in (
        answers_of w.0 w.1 (λ z. let q = w.2 z in (q.0, q.1, q.2, λ v. (valid v).1 z q.0 q.1, (q.3, q.4), q.5)) (λ d. (w.3 d).0),
        λ d. (w.3 d).1,
        λ v. (valid v).0,
      )

  abbrev pub SaidOfRank : List ℕ → Answer → Type 0
  SaidOfRank p r =
      let at : ℕ → ℕ = λ x. get_or p x 0 in
      let end : ℕ = at (length p - 1) in
      Answers (every n s (((x : ℕ) × (x < length p) × (n ≤ at x)) gives 3
      ∷ ((length p ≡ 0) ⊎ (n < length p) ⊎ ((x : ℕ) × (suc x < length p) × (edge s (at x) (at (suc x)) ≡ 0))) gives 12 ∷ [])) r
      (r.value ≡ sum (length p - 1) (λ x. sum (at (suc x)) (λ b. edge s (at x) b * count n s b end)) % 2 ^ 64)
      × (Valid n s → r.number ≡ 0 → Ranked n s (at 0) end r.value p)

  pub rank_field : (p : List ℕ) → SaidOfRank p (rank_answer n s p)
  rank_field p =
      let w = rank_words n s p in (
        answers_of w.0 w.1 w.2 w.3,
        rank_valid_words n s p,
      )
