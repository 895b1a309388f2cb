-- The laws of the walk kept aside, vertex by vertex. Assumes nothing.
use Rattle.std.proofs.Common.{◌≡◌, Bool, true, false, eqb, ℕ, suc, ◌+◌, ◌-◌, ◌≤◌, ◌<◌, Option, Some, None, MatchOption, List, [], ◌∷◌, ◌++◌, length, refl, sym, ap, ◌∙◌, length-append, eqb-true, arith}
use Rattle.std.proofs.lemmas.Bool.{eqb-false}
use Rattle.std.specs.Bool.{then_some}
use Rattle.sheet_theory.specs.Layout.{count_at, edge_at}
use Rattle.query.specs.declared.walk.Next.{Next}
use Rattle.query_theory.specs.Walk.{headed, walked}
use Rattle.query_theory.specs.Unrank.{walk}
use Rattle.query.specs.Internal.{Stepped, IsWalk}
use Rattle.query_theory.proofs.WalkLaws.{walked_none, walked_here, walked_left, walked_goes, walked_passes}

-- ---- vertices before a walk that arrives

abbrev onto : List ℕ → List ℕ → List ℕ
onto [] q = q
onto (x ∷ l) q = headed x (onto l q)

onto_none : (l : List ℕ) → onto l [] ≡ []
unfolding headed
onto_none [] = refl
onto_none (x ∷ l) = rw (onto_none l)

onto_last : (l : List ℕ) (x : ℕ) (q : List ℕ) → onto (l ++ x ∷ []) q ≡ onto l (headed x q)
onto_last [] x q = refl
onto_last (y ∷ l) x q = ap (headed y) (onto_last l x q)

headed_some : (x y : ℕ) (l q : List ℕ) → headed x (l ++ y ∷ q) ≡ x ∷ l ++ y ∷ q
unfolding headed
headed_some x y [] q = refl
headed_some x y (z ∷ l) q = refl

onto_alone : (l : List ℕ) (x : ℕ) → onto l (x ∷ []) ≡ l ++ x ∷ []
onto_alone [] x = refl
onto_alone (y ∷ l) x = ap (headed y) (onto_alone l x) ∙ headed_some y x l []

-- ---- what `then_some` answers
some_if : {A : Type 0} (b : Bool) (a : A) (o : Option A) (P : Type 0) (Q : A → Type 0) → o ≡ then_some b a → (b ≡ true → Q a) → (b ≡ false → P) → MatchOption o P Q
some_if true a o P Q e some none = rw e (some refl)
some_if false a o P Q e some none = rw e (none refl)

-- ---- ByRank::walk: the walk is at a vertex, `left` is left of its rank, and the `count` vertices before it are kept in l

pub record Walking (n : ℕ) (s : List ℕ) (i j k at left count : ℕ) (l : List ℕ) : Type 0 where
  pub many : length l ≡ count
  pub vertex : at < n
  pub goes_on : walk n s i j k ≡ onto l (walked (edge_at s) (count_at n s) j n (n - count) at left)

module _ (n : ℕ) (s : List ℕ) (i j k : ℕ) where
  pub walking_start : (l : List ℕ) → i < n → l ≡ [] → Walking n s i j k i k 0 l
  walking_start l h e =
      rw e (record { many = refl; vertex = h; goes_on = ap (λ m. walked (edge_at s) (count_at n s) j n m i k) (omega arith) })

  module _ (at left count : ℕ) (l : List ℕ) (was : Walking n s i j k at left count l) where
    -- n vertices have not arrived
    pub walking_far : n ≤ count → walk n s i j k ≡ []
    walking_far h =
        let e : n - count ≡ 0 = omega arith in
        was.goes_on
        ∙ ap (λ (m : ℕ). onto l (walked (edge_at s) (count_at n s) j n m at left)) e
        ∙ ap (onto l) (walked_none n (edge_at s) (count_at n s) j at left)
        ∙ onto_none l

    -- otherwise the vertex is kept
    module _ (h : count < n) (l' : List ℕ) (el : l' ≡ l ++ at ∷ []) where
      many' : length l' ≡ count + 1
      many' = omega (arith, ap length el ∙ length-append l (at ∷ []), was.many)

      rest : walk n s i j k ≡ onto l (walked (edge_at s) (count_at n s) j n (suc (n - (count + 1))) at left)
      rest = let e : n - count ≡ suc (n - (count + 1)) = omega arith in was.goes_on ∙ ap (λ (m : ℕ). onto l (walked (edge_at s) (count_at n s) j n m at left)) e

      fails : walked (edge_at s) (count_at n s) j n (suc (n - (count + 1))) at left ≡ [] → walk n s i j k ≡ []
      fails e = rest ∙ ap (onto l) e ∙ onto_none l

      here : at ≡ j → left ≡ 0 → IsWalk n s i j k l'
      here e z = record {
        some = omega (arith, many');
        within = omega (arith, many');
        is = el ∙ sym (rest ∙ ap (onto l) (walked_here n (edge_at s) (count_at n s) j _ at left e z) ∙ onto_alone l at);
      }

      -- v has the vertices kept, as f says
      pub walking_ends : at ≡ j → {A : Type 0} (f : A → List ℕ) (v : A) → f v ≡ l' → (o : Option A) → o ≡ then_some (eqb left 0) v
          → MatchOption o (walk n s i j k ≡ []) (λ w. IsWalk n s i j k (f w))
      walking_ends e f v ev o eo =
          some_if (eqb left 0) v o _ _ eo
          (λ z. rw ev (here e (eqb-true left 0 z)))
          (λ z. fails (walked_left n (edge_at s) (count_at n s) j _ at left e (eqb-false left 0 z)))

      module _ (d : at ≡ j → ⊥) where
        pub walking_stuck : Stepped n s at j left None → walk n s i j k ≡ []
        walking_stuck p = fails (walked_passes n (edge_at s) (count_at n s) j _ at left p.0 d p.1)

        pub walking_more : (r : Next) → Stepped n s at j left (Some r) → Walking n s i j k r.vertex r.left (count + 1) l'
        walking_more r p = record {
          many = many';
          vertex = p.0;
          goes_on = rest
              ∙ ap (onto l) (walked_goes n (edge_at s) (count_at n s) j _ at left r.vertex r.left d p.1)
              ∙ sym (onto_last l at (walked (edge_at s) (count_at n s) j n (n - (count + 1)) r.vertex r.left))
              ∙ ap (λ (q : List ℕ). onto q (walked (edge_at s) (count_at n s) j n (n - (count + 1)) r.vertex r.left)) (sym el);
        }
