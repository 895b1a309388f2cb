-- The laws of the layout: places are within a sheet and tell their vertices; a sheet with other rows and counts is read back, and
-- is known by its words. Assumes nothing.
use mathlib.Core.Path.{◌≡◌, refl, sym, ap, ap₂, subst, ◌∙◌}
use mathlib.Core.Logic.{◌⊎◌, inl, inr}
use mathlib.Core.List.{List}
use Prim.Native.Nat.{ℕ, zero, suc, ◌+◌, ◌-◌, ◌*◌, ◌/◌, ◌%◌, ◌≤◌, ◌<◌}
use native.Mathlib.Nat.{not-suc-le-zero, le_of_suc-le-suc, div-lt_iff_lt-mul, mod-lt, div-add-mod', le_of_lt, mul-le-mul, mul-le-mul_right, suc-mul}
use native.Mathlib.Decide.{dec_lt}
use native.Mathlib.Omega.{arith}
use borrow.Author.Tests.{lt-ltb, le-ltb}
use lib.Arith.{digits_div, digits_mod}
use lib.ListN.{length, get_or, get_or-eq_default}
use lib.Seq.{ext_get_or}
use Rattle.sheet_theory.specs.Layout.{most_vertices, counts_end, size, Shape, row_at, count_at, build, redone_word, redone}

-- ---- how many words a sheet has: beside these laws no law looks into `size`

-- the rows and the counts are within a sheet
pub counts_within : (n : ℕ) → counts_end n ≤ size n
unfolding size
counts_within n = omega arith

pub rows_within : {n : ℕ} {s : List ℕ} → Shape n s → n ≤ length s
rows_within {n} h = omega (arith, counts_within n)

-- and nothing stands after them
pub rest_none : (n k : ℕ) → counts_end n ≤ k → k < size n → ⊥
unfolding size
rest_none n k h q = omega arith

-- the words of a sheet tell its vertices: one vertex more is a word more at least
size_lt : (n k : ℕ) → n < k → size n < size k
unfolding size
size_lt n k h = omega (arith, mul-le-mul (le_of_lt h) (le_of_lt h))

pub size_only : (n k : ℕ) → size n ≡ size k → n ≡ k
size_only n k e =
    elim (dec_lt n k) [
      | yes l ↦ absurd (omega (arith, size_lt n k l))
      | no l ↦ elim (dec_lt k n) [ yes q ↦ absurd (omega (arith, size_lt k n q)) | no q ↦ omega arith ]
    ]

pub counts_le : (n : ℕ) → n ≤ most_vertices → counts_end n ≤ counts_end most_vertices
counts_le n h = omega (arith, mul-le-mul h h)

pub size_le : (n : ℕ) → n ≤ most_vertices → size n ≤ size most_vertices
unfolding size
size_le n h = omega (arith, counts_le n h)

-- the greatest sheet has 4,160 words
pub greatest : size most_vertices ≡ 4160
unfolding size
greatest = refl

-- ---- places

-- the counts from i are among the counts, so within a sheet
pub row_counts : (n i : ℕ) → i < n → n + i * n + n ≤ counts_end n
row_counts n i h = omega (arith, suc-mul i n, mul-le-mul_right n h)

pub from_within : (n i : ℕ) → i < n → n + i * n + n ≤ size n
from_within n i h = omega (arith, row_counts n i h, counts_within n)

-- a place tells from which vertex to which its count is
pub place_only : (n i j k m : ℕ) → j < n → m < n → n + i * n + j ≡ n + k * n + m → (i ≡ k) × (j ≡ m)
place_only n i j k m hj hm e =
    let q : i * n + j ≡ k * n + m = omega arith in
    (sym (digits_div i hj) ∙ ap (λ (x : ℕ). x / n) q ∙ digits_div k hm, sym (digits_mod i hj) ∙ ap (λ (x : ℕ). x % n) q ∙ digits_mod k hm)

-- the counts from a do not stand among those from b
pub place_apart : (n a b j : ℕ) → (a ≡ b → ⊥) → j < n → (n + a * n + j < n + b * n) ⊎ (n + b * n + n ≤ n + a * n + j)
place_apart n a b j d h =
    elim (dec_lt a b) [
      | yes l ↦ inl (omega (arith, suc-mul a n, mul-le-mul_right n l))
      | no l ↦ let q : b < a = omega (arith, d) in inr (omega (arith, suc-mul b n, mul-le-mul_right n q))
    ]

-- ---- lists by a function of the place

length_build : (m : ℕ) (f : ℕ → ℕ) → length (build m f) ≡ m
unfolding build
length_build zero f = refl
length_build (suc m) f = ap suc (length_build m (λ k. f (suc k)))

get_d_build : (m : ℕ) (f : ℕ → ℕ) (k : ℕ) → k < m → get_or (build m f) k 0 ≡ f k
unfolding build
get_d_build zero f k h = absurd (not-suc-le-zero h)
get_d_build (suc m) f zero h = refl
get_d_build (suc m) f (suc k) h = get_d_build m (λ i. f (suc i)) k (le_of_suc-le-suc h)

-- a list of m numbers that has f k at each place k is `build m f`
build_ext : (m : ℕ) (f : ℕ → ℕ) (l : List ℕ) → length l ≡ m → ((k : ℕ) → k < m → get_or l k 0 ≡ f k) → l ≡ build m f
build_ext m f l e h =
    ext_get_or 0 l (build m f) (e ∙ sym (length_build m f))
    (λ k q. let q' : k < m = omega arith in h k q' ∙ sym (get_d_build m f k q'))

-- ---- a sheet with other rows and counts

module _ (n : ℕ) (r : ℕ → ℕ) (c : ℕ → ℕ → ℕ) (s : List ℕ) where
  word_row : (i : ℕ) → i < n → redone_word n r c s i ≡ r i
  unfolding redone_word
  word_row i h = simp (lt-ltb i n h)

  word_count : (i j : ℕ) → i < n → j < n → redone_word n r c s (n + i * n + j) ≡ c i j
  unfolding redone_word
  word_count i j hi hj =
      let e : n + i * n + j - n ≡ i * n + j = omega arith in
      simp (le-ltb (n + i * n + j) n (omega arith), lt-ltb (n + i * n + j) (counts_end n) (omega (arith, row_counts n i hi)))
      (ap (λ (x : ℕ). c (x / n) (x % n)) e ∙ ap₂ c (digits_div i hj) (digits_mod i hj))

  word_rest : (k : ℕ) → counts_end n ≤ k → redone_word n r c s k ≡ get_or s k 0
  unfolding redone_word
  word_rest k h = simp (le-ltb k n (omega arith), le-ltb k (counts_end n) h)

  pub length_redone : length (redone n r c s) ≡ length s
  unfolding redone
  length_redone = length_build (length s) (redone_word n r c s)

  module _ (long : length s ≡ size n) where
    pub row_redone : (i : ℕ) → i < n → row_at (redone n r c s) i ≡ r i
    unfolding redone
    row_redone i h = get_d_build (length s) (redone_word n r c s) i (omega (arith, counts_within n)) ∙ word_row i h

    pub count_redone : (i j : ℕ) → i < n → j < n → count_at n (redone n r c s) i j ≡ c i j
    unfolding redone
    count_redone i j hi hj = get_d_build (length s) (redone_word n r c s) (n + i * n + j) (omega (arith, from_within n i hi)) ∙ word_count i j hi hj

  pub rest_redone : (k : ℕ) → counts_end n ≤ k → get_or (redone n r c s) k 0 ≡ get_or s k 0
  unfolding redone
  rest_redone k h =
      elim (dec_lt k (length s)) [
        | yes l ↦ get_d_build (length s) (redone_word n r c s) k l ∙ word_rest k h
        | no l ↦ get_or-eq_default (redone n r c s) 0 (omega (arith, length_redone)) ∙ sym (get_or-eq_default s 0 (omega arith))
      ]

  -- words with these rows, these counts and every other word of s are that sheet
  pub redone_ext : (t : List ℕ) → length t ≡ length s
      → ((i : ℕ) → i < n → row_at t i ≡ r i)
      → ((i j : ℕ) → i < n → j < n → count_at n t i j ≡ c i j)
      → ((k : ℕ) → counts_end n ≤ k → get_or t k 0 ≡ get_or s k 0)
      → t ≡ redone n r c s
  unfolding redone
  redone_ext t e hr hc hk = build_ext (length s) (redone_word n r c s) t e at
    where
      at : (k : ℕ) → k < length s → get_or t k 0 ≡ redone_word n r c s k
      at k h =
          elim (dec_lt k n) [
            | yes p ↦ hr k p ∙ sym (word_row k p)
            | no p ↦ elim (dec_lt k (counts_end n)) [
              | yes q ↦
                  let i : ℕ = (k - n) / n in
                  let j : ℕ = (k - n) % n in
                  let pos : 0 < n = elim (dec_lt 0 n) [ yes z ↦ z | no z ↦ let o : n ≡ 0 = omega arith in absurd (omega (arith, rw o at q)) ] in
                  let hi : i < n = (div-lt_iff_lt-mul pos).1 (omega arith) in
                  let hj : j < n = mod-lt (k - n) pos in
                  let at-k : n + i * n + j ≡ k = omega (arith, div-add-mod' (k - n) n) in
                  subst (λ (x : ℕ). get_or t x 0 ≡ redone_word n r c s x) at-k (hc i j hi hj ∙ sym (word_count i j hi hj))
              | no q ↦ hk k (omega arith) ∙ sym (word_rest k (omega arith))
            ]
          ]

-- two sheets with the same rows, the same counts and the same words after them are the same
pub sheet_ext : (n : ℕ) (s t : List ℕ) → length s ≡ size n → length t ≡ size n
    → ((i : ℕ) → i < n → row_at s i ≡ row_at t i) → ((i j : ℕ) → i < n → j < n → count_at n s i j ≡ count_at n t i j)
    → ((k : ℕ) → counts_end n ≤ k → k < size n → get_or s k 0 ≡ get_or t k 0) → s ≡ t
sheet_ext n s t es et hr hc hk =
    redone_ext n (row_at t) (count_at n t) t s (es ∙ sym et) hr hc
    (λ k q.
    elim (dec_lt k (size n)) [
      | yes l ↦ hk k q l
      | no l ↦ get_or-eq_default s 0 (omega arith) ∙ sym (get_or-eq_default t 0 (omega arith))
    ])
    ∙ sym (redone_ext n (row_at t) (count_at n t) t t refl (λ i hi. refl) (λ i j hi hj. refl) (λ k q. refl))
