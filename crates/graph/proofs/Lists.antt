-- Lists put together from lists: what is in them, how long they are, and when their entries all differ. With that, the laws of `Exactly`.
-- Assumes nothing.
use mathlib.Core.Path.{◌≡◌, refl, sym, ap, ap₂, subst, ◌∙◌}
use mathlib.Core.Logic.{◌⊎◌, inl, inr}
use mathlib.Core.List.{List, [], ◌∷◌, ◌++◌}
use Prim.Native.Nat.{ℕ, zero, suc, ◌+◌, ◌≤◌, ◌<◌, zero-le}
use native.Mathlib.Nat.{mul-one}
use native.Mathlib.Decide.{ℕ_discrete}
use native.Mathlib.Omega.{arith}
use lib.ListN.{length, length-append}
use Rattle.sums.specs.Gather.{gather}
use Rattle.sums.proofs.SumLaws.{sum_const}
use Rattle.sums.proofs.GatherLaws.{gather_length}
use Rattle.graph.specs.Graph.{◌is_in◌, Distinct, Exactly}

pub in? : (x : ℕ) (l : List ℕ) → Dec (x is_in l)
in? x [] = no (λ m. m)
in? x (y ∷ l) =
    elim (ℕ_discrete x y) [
      | yes e ↦ yes (inl e)
      | no d ↦ elim (in? x l) [ yes m ↦ yes (inr m) | no h ↦ no (λ m. elim m [ inl e ↦ d e | inr q ↦ h q ]) ]
    ]

module _ {A : Type 0} where
  -- ---- one list after another

  pub in_left : (x : A) (s t : List A) → x is_in s → x is_in (s ++ t)
  in_left x [] t m = absurd m
  in_left x (y ∷ s) t (inl e) = inl e
  in_left x (y ∷ s) t (inr m) = inr (in_left x s t m)

  pub in_right : (x : A) (s t : List A) → x is_in t → x is_in (s ++ t)
  in_right x [] t m = m
  in_right x (y ∷ s) t m = inr (in_right x s t m)

  pub in_either : (x : A) (s t : List A) → x is_in (s ++ t) → (x is_in s) ⊎ (x is_in t)
  in_either x [] t m = inr m
  in_either x (y ∷ s) t (inl e) = inl (inl e)
  in_either x (y ∷ s) t (inr m) = elim (in_either x s t m) [ inl p ↦ inl (inr p) | inr p ↦ inr p ]

  pub append_distinct : (s t : List A) → Distinct s → Distinct t → ((x : A) → x is_in s → x is_in t → ⊥) → Distinct (s ++ t)
  append_distinct [] t d e h = e
  append_distinct (y ∷ s) t d e h =
      (λ m. elim (in_either y s t m) [ inl p ↦ d.0 p | inr p ↦ h y (inl refl) p ], append_distinct s t d.1 e (λ x p q. h x (inr p) q))

  -- ---- f 0, f 1, .., f (n - 1), one after another

  pub gather_in : (n : ℕ) (f : ℕ → List A) (x : A) (b : ℕ) → b < n → x is_in f b → x is_in gather n f
  unfolding gather
  gather_in zero f x b h m = absurd (omega arith)
  gather_in (suc n) f x b h m =
      elim (ℕ_discrete b n) [
        | yes e ↦ in_right x (gather n f) (f n) (rw e at m)
        | no d ↦ in_left x (gather n f) (f n) (gather_in n f x b (omega arith) m)
      ]

  pub gather_of : (n : ℕ) (f : ℕ → List A) (x : A) → x is_in gather n f → (b : ℕ) × (b < n) × (x is_in f b)
  unfolding gather
  gather_of zero f x m = absurd m
  gather_of (suc n) f x m =
      elim (in_either x (gather n f) (f n) m) [
        | inl p ↦ let r = gather_of n f x p in (r.0, omega arith, r.2)
        | inr p ↦ (n, omega arith, p)
      ]

  pub gather_distinct : (n : ℕ) (f : ℕ → List A) → ((b : ℕ) → b < n → Distinct (f b)) → ((b c : ℕ) (x : A) → b < n → c < n → x is_in f b → x is_in f c → b ≡ c) → Distinct (gather n f)
  unfolding gather
  gather_distinct zero f h g = tt
  gather_distinct (suc n) f h g =
      append_distinct (gather n f) (f n) (gather_distinct n f (λ b p. h b (omega arith)) (λ b c x p q. g b c x (omega arith) (omega arith))) (h n (omega arith))
      (λ x p q. let r = gather_of n f x p in omega (arith, r.1, g r.0 n x (omega (arith, r.1)) (omega arith) r.2 q))

  -- ---- a list where P holds, and nothing where it does not

  unfoldable pub when : {P : Type 0} → Dec P → List A → List A
  when (yes p) l = l
  when (no d) l = []

  pub when_in : {P : Type 0} (d : Dec P) (l : List A) (x : A) → P → x is_in l → x is_in when d l
  unfolding when
  when_in (yes p) l x h m = m
  when_in (no d) l x h m = absurd (d h)

  pub when_of : {P : Type 0} (d : Dec P) (l : List A) (x : A) → x is_in when d l → P × (x is_in l)
  unfolding when
  when_of (yes p) l x m = (p, m)
  when_of (no d) l x m = absurd m

  pub when_distinct : {P : Type 0} (d : Dec P) (l : List A) → Distinct l → Distinct (when d l)
  unfolding when
  when_distinct (yes p) l h = h
  when_distinct (no d) l h = tt

  -- ---- the entries of a list that are a Q

  unfoldable pub keep : {Q : A → Type 0} → ((x : A) → Dec (Q x)) → List A → List A
  keep d [] = []
  keep d (x ∷ l) = when (d x) (x ∷ []) ++ keep d l

  keep_in : {Q : A → Type 0} (d : (x : A) → Dec (Q x)) (y : A) (l : List A) → Q y → y is_in l → y is_in keep d l
  unfolding keep
  keep_in d y [] q m = m
  keep_in d y (x ∷ l) q (inl e) = in_left y (when (d x) (x ∷ [])) (keep d l) (when_in (d x) (x ∷ []) y (rw e at q) (inl e))
  keep_in d y (x ∷ l) q (inr m) = in_right y (when (d x) (x ∷ [])) (keep d l) (keep_in d y l q m)

  keep_of : {Q : A → Type 0} (d : (x : A) → Dec (Q x)) (y : A) (l : List A) → y is_in keep d l → Q y × (y is_in l)
  unfolding keep
  keep_of d y [] m = absurd m
  keep_of d y (x ∷ l) m =
      elim (in_either y (when (d x) (x ∷ [])) (keep d l) m) [
        | inl p ↦ let r = when_of (d x) (x ∷ []) y p in elim r.1 [ inl e ↦ (rw e r.0, inl e) | inr q ↦ absurd q ]
        | inr p ↦ let r = keep_of d y l p in (r.0, inr r.1)
      ]

  keep_distinct : {Q : A → Type 0} (d : (x : A) → Dec (Q x)) (l : List A) → Distinct l → Distinct (keep d l)
  unfolding keep
  keep_distinct d [] h = tt
  keep_distinct d (x ∷ l) h =
      append_distinct (when (d x) (x ∷ [])) (keep d l) (when_distinct (d x) (x ∷ []) ((λ m. m), tt)) (keep_distinct d l h.1)
      (λ y p q. elim (when_of (d x) (x ∷ []) y p).1 [ inl e ↦ h.0 (rw e at (keep_of d y l q).1) | inr r ↦ r ])

  -- ---- a before each list of a list of lists

  unfoldable pub each : A → List (List A) → List (List A)
  each a [] = []
  each a (y ∷ l) = (a ∷ y) ∷ each a l

  pub each_in : (a : A) (y : List A) (l : List (List A)) → y is_in l → (a ∷ y) is_in each a l
  unfolding each
  each_in a y [] m = m
  each_in a y (z ∷ l) (inl e) = inl (ap (λ t. a ∷ t) e)
  each_in a y (z ∷ l) (inr m) = inr (each_in a y l m)

  pub each_of : (a : A) (x : List A) (l : List (List A)) → x is_in each a l → (y : List A) × (x ≡ a ∷ y) × (y is_in l)
  unfolding each
  each_of a x [] m = absurd m
  each_of a x (z ∷ l) (inl e) = (z, e, inl refl)
  each_of a x (z ∷ l) (inr m) = let r = each_of a x l m in (r.0, r.1, inr r.2)

  pub each_distinct : (a : A) (l : List (List A)) → Distinct l → Distinct (each a l)
  unfolding each
  each_distinct a [] d = tt
  each_distinct a (z ∷ l) d =
      (λ m. let r = each_of a (a ∷ z) l m in let e : r.0 ≡ z = cc r.1 in d.0 (rw e at r.2), each_distinct a l d.1)

  pub each_length : (a : A) (l : List (List A)) → length (each a l) ≡ length l
  unfolding each
  each_length a [] = refl
  each_length a (z ∷ l) = ap suc (each_length a l)

  -- ---- t without x, where x is in it

  pub without : (x : A) (t : List A) → x is_in t → List A
  without x [] m = []
  without x (y ∷ t) (inl e) = t
  without x (y ∷ t) (inr m) = y ∷ without x t m

  pub without_length : (x : A) (t : List A) (m : x is_in t) → length t ≡ suc (length (without x t m))
  unfolding without
  without_length x [] m = absurd m
  without_length x (y ∷ t) (inl e) = refl
  without_length x (y ∷ t) (inr m) = ap suc (without_length x t m)

  pub without_in : (x : A) (t : List A) (m : x is_in t) (z : A) → z is_in t → (z ≡ x) ⊎ (z is_in without x t m)
  unfolding without
  without_in x [] m z q = absurd m
  without_in x (y ∷ t) (inl e) z (inl q) = inl (q ∙ sym e)
  without_in x (y ∷ t) (inl e) z (inr q) = inr q
  without_in x (y ∷ t) (inr m) z (inl q) = inr (inl q)
  without_in x (y ∷ t) (inr m) z (inr q) = elim (without_in x t m z q) [ inl r ↦ inl r | inr r ↦ inr (inr r) ]

-- ---- how many things a list can hold

-- different things whose images differ and are all in t are no more than t is long
pub images_le : {A B : Type 0} (f : A → B) (s : List A) (t : List B) → Distinct s → ((x : A) → x is_in s → f x is_in t)
    → ((x y : A) → x is_in s → y is_in s → f x ≡ f y → x ≡ y) → length s ≤ length t
images_le f [] t d h g = zero-le
images_le f (x ∷ s) t d h g =
    let m = h x (inl refl) in
    omega (
      arith,
      without_length (f x) t m,
      images_le f s (without (f x) t m) d.1
          (λ y q. elim (without_in (f x) t m (f y) (h y (inr q))) [ inl e ↦ absurd (d.0 (rw (g y x (inr q) (inl refl) e) at q)) | inr r ↦ r ])
          (λ y z p q e. g y z (inr p) (inr q) e),
    )

module _ {A : Type 0} where
  pub distinct_le : (s t : List A) → Distinct s → ((x : A) → x is_in s → x is_in t) → length s ≤ length t
  distinct_le s t d h = images_le (λ x. x) s t d h (λ x y p q e. e)

  -- `Exactly` pins its number down
  pub exactly_only : {P : A → Type 0} {j k : ℕ} → Exactly P j → Exactly P k → j ≡ k
  exactly_only p q =
      omega (
        arith,
        p.many,
        q.many,
        distinct_le p.list q.list p.once (λ x m. q.all x (p.only x m)),
        distinct_le q.list p.list q.once (λ x m. p.all x (q.only x m)),
      )

  -- what is a P exactly where it is a Q is as many
  pub exactly_cong : {P Q : A → Type 0} {k : ℕ} → ((x : A) → P x → Q x) → ((x : A) → Q x → P x) → Exactly P k → Exactly Q k
  exactly_cong f g r = record { list = r.list; once = r.once; all = λ x q. r.all x (g x q); only = λ x m. f x (r.only x m); many = r.many }

  -- of the things that are a P, those that are a Q too
  pub exactly_keep : {P Q : A → Type 0} {k : ℕ} (d : (x : A) → Dec (Q x)) (r : Exactly P k) → Exactly (λ x. P x × Q x) (length (keep d r.list))
  exactly_keep d r = record {
    list = keep d r.list;
    once = keep_distinct d r.list r.once;
    all = λ x p. keep_in d x r.list p.1 (r.all x p.0);
    only = λ x m. let s = keep_of d x r.list m in (r.only x s.1, s.0);
    many = refl;
  }

  -- where nothing is both a P and a Q, what is the one or the other is as many as both together
  pub exactly_either : {P Q : A → Type 0} {j k : ℕ} → ((x : A) → P x → Q x → ⊥) → Exactly P j → Exactly Q k → Exactly (λ x. P x ⊎ Q x) (j + k)
  exactly_either h p q = record {
    list = p.list ++ q.list;
    once = append_distinct p.list q.list p.once q.once (λ x m s. h x (p.only x m) (q.only x s));
    all = λ x c. elim c [ inl m ↦ in_left x p.list q.list (p.all x m) | inr m ↦ in_right x p.list q.list (q.all x m) ];
    only = λ x m. elim (in_either x p.list q.list m) [ inl s ↦ inl (p.only x s) | inr s ↦ inr (q.only x s) ];
    many = length-append p.list q.list ∙ ap₂ (λ x y. x + y) p.many q.many;
  }

  in_one : (x y : A) → x is_in (y ∷ []) → x ≡ y
  in_one x y m = elim m [ inl e ↦ e | inr e ↦ absurd e ]

  -- where f gives a P for each number below k, and g gives back each one's number, there are k of them
  pub exactly_below : {P : A → Type 0} (k : ℕ) (f : ℕ → A) (g : A → ℕ) → ((m : ℕ) → m < k → P (f m)) → ((m : ℕ) → m < k → g (f m) ≡ m)
      → ((x : A) → P x → (g x < k) × (f (g x) ≡ x)) → Exactly P k
  exactly_below {P} k f g h b s = record {
    list = gather k (λ m. f m ∷ []);
    once = gather_distinct k (λ m. f m ∷ []) (λ m h. (λ e. e, tt))
        (λ m l x hm hl p q. sym (b m hm) ∙ ap g (sym (in_one x (f m) p) ∙ in_one x (f l) q) ∙ b l hl);
    all = λ x p. let r = s x p in gather_in k (λ m. f m ∷ []) x (g x) r.0 (inl (sym r.1));
    only = λ x p. let r = gather_of k (λ m. f m ∷ []) x p in subst P (sym (in_one x _ r.2)) (h r.0 r.1);
    many = gather_length k (λ m. f m ∷ []) ∙ sum_const k 1 ∙ mul-one k;
  }
