-- The laws of lists put one after the other: one more, how long they are, where each stands, which of them are the same, and lists of
-- lists. Assumes nothing.
use mathlib.Core.Path.{◌≡◌, refl, sym, ap, ap₂, ◌∙◌}
use mathlib.Core.List.{List, [], ◌++◌, append-nil, append_assoc}
use Prim.Native.Nat.{ℕ, zero, suc, ◌+◌, ◌-◌, ◌*◌, ◌/◌, ◌%◌, ◌≤◌, ◌<◌}
use native.Mathlib.Nat.{mul-add-div_right, mul-add-mod_self_right, div-eq_of_lt, mod-eq_of_lt}
use native.Mathlib.Omega.{arith}
use lib.ListN.{length, drop, length-append}
use lib.Seq.{drop-append_seam}
use Rattle.sums.specs.Sum.{sum}
use Rattle.sums.specs.Gather.{gather}
use Rattle.sums.proofs.SumLaws.{sum_const, sum_longer, sum_mono}

module _ {A : Type 0} where
  pub gather_none : (f : ℕ → List A) → gather 0 f ≡ []
  unfolding gather
  gather_none f = refl

  pub gather_more : (n : ℕ) (f : ℕ → List A) → gather (n + 1) f ≡ gather n f ++ f n
  unfolding gather
  gather_more n f = let one : n + 1 ≡ suc n = omega arith in ap (λ (x : ℕ). gather x f) one

  pub gather_cong : (n : ℕ) (f g : ℕ → List A) → ((i : ℕ) → i < n → f i ≡ g i) → gather n f ≡ gather n g
  unfolding gather
  gather_cong zero f g h = refl
  gather_cong (suc n) f g h = ap₂ ◌++◌ (gather_cong n f g (λ i hi. h i (omega arith))) (h n (omega arith))

  -- ---- the first of them, and lists of lists

  pub gather_first : (n : ℕ) (f : ℕ → List A) → gather (suc n) f ≡ f 0 ++ gather n (λ i. f (suc i))
  unfolding gather
  gather_first zero f = sym (append-nil (f 0))
  gather_first (suc n) f = ap (λ (l : List A). l ++ f (suc n)) (gather_first n f) ∙ append_assoc (f 0) (gather n (λ i. f (suc i))) (f (suc n))

  gather_add : (m k : ℕ) (f : ℕ → List A) → gather (m + k) f ≡ gather m f ++ gather k (λ i. f (m + i))
  unfolding gather
  gather_add m zero f = let e : m + 0 ≡ m = omega arith in ap (λ (x : ℕ). gather x f) e ∙ sym (append-nil (gather m f))
  gather_add m (suc k) f =
      let e : m + suc k ≡ suc (m + k) = omega arith in
      ap (λ (x : ℕ). gather x f) e
      ∙ (ap (λ (l : List A). l ++ f (m + k)) (gather_add m k f) ∙ append_assoc (gather m f) (gather k (λ i. f (m + i))) (f (m + k)))

  -- in what begins with n of them, the one at i comes after those before it
  pub gather_place : (n : ℕ) (f : ℕ → List A) (i : ℕ) → i < n → (l : List A) → (rest : List A) × (drop (length (gather i f)) (gather n f ++ l) ≡ f i ++ rest)
  unfolding gather
  gather_place n f i h l =
      let e : n ≡ suc i + (n - suc i) = omega arith in
      let later = gather (n - suc i) (λ k. f (suc i + k)) in
      let all : gather n f ++ l ≡ gather i f ++ (f i ++ (later ++ l))
      = ap (λ (x : List A). x ++ l) (ap (λ (x : ℕ). gather x f) e ∙ gather_add (suc i) (n - suc i) f)
      ∙ (append_assoc (gather i f ++ f i) later l ∙ append_assoc (gather i f) (f i) (later ++ l)) in
      (later ++ l, ap (drop (length (gather i f))) all ∙ drop-append_seam (gather i f) _)

  -- n times m are n × m, of which the one at k stands among the m of k / m at the place k % m
  pub gather_nested : (n m : ℕ) (f : ℕ → ℕ → List A) → 0 < m → gather n (λ i. gather m (f i)) ≡ gather (n * m) (λ k. f (k / m) (k % m))
  unfolding gather
  gather_nested zero m f h = let e : 0 ≡ zero * m = omega arith in ap (λ (x : ℕ). gather x (λ k. f (k / m) (k % m))) e
  gather_nested (suc n) m f h =
      let e : n * m + m ≡ suc n * m = omega arith in
      let row : (i : ℕ) → i < m → f n i ≡ f ((n * m + i) / m) ((n * m + i) % m)
      = λ i hi.
      ap₂ f
      (omega (arith, mul-add-div_right h n i, div-eq_of_lt hi))
      (sym (mul-add-mod_self_right n m i ∙ mod-eq_of_lt hi)) in
      ap₂ ◌++◌ (gather_nested n m f h) (gather_cong m (f n) (λ i. f ((n * m + i) / m) ((n * m + i) % m)) row)
      ∙ (sym (gather_add (n * m) m (λ k. f (k / m) (k % m))) ∙ ap (λ (x : ℕ). gather x (λ k. f (k / m) (k % m))) e)

  -- ---- how long

  pub gather_length : (n : ℕ) (f : ℕ → List A) → length (gather n f) ≡ sum n (λ b. length (f b))
  unfolding gather sum
  gather_length zero f = refl
  gather_length (suc n) f = length-append (gather n f) (f n) ∙ ap (λ x. x + length (f n)) (gather_length n f)

  -- where there is room for n of them, there is room for one more than m
  pub gather_room : (m n : ℕ) (f : ℕ → List A) → m < n → length (gather m f) + length (f m) ≤ length (gather n f)
  unfolding sum
  gather_room m n f h = omega (arith, gather_length m f, gather_length n f, sum_longer (suc m) n (λ b. length (f b)) h)

  -- lists of at most b entries each
  pub gather_bound : (n : ℕ) (f : ℕ → List A) (b : ℕ) → ((i : ℕ) → i < n → length (f i) ≤ b) → length (gather n f) ≤ n * b
  gather_bound n f b h = omega (arith, gather_length n f, sum_mono n (λ i. length (f i)) (λ i. b) h, sum_const n b)
