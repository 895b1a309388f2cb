-- The laws of the rank of a path: the counts passed over from one vertex, added up bit by bit, and from each vertex to the next.
-- Assumes nothing.
use Rattle.std.proofs.Common.{◌≡◌, ℕ, ◌+◌, ◌-◌, ◌%◌, ◌^◌, ◌<◌, List, [], ◌∷◌, length, get_or, refl, sym, ap, ◌∙◌, arith}
use lib.Bits.{bit_and}
use Rattle.word.specs.Bit.{Lowest, LowestCleared}
use Rattle.word.proofs.VisitLaws.{Adding, adding_low, adding_more, adding_done}
use Rattle.sheet_theory.specs.Layout.{row_at, count_at, edge_at}
use Rattle.query_theory.specs.PassedOver.{passed, passed_over, end}
use Rattle.query_theory.specs.Rank.{path_rank}
use Rattle.query_theory.proofs.ByPlace.{end_places}

-- ---- pass_over: rest is what is left of the row's bits below b, x the sum so far

-- x is the sum of the counts to j from the vertices that are gone from rest
abbrev pub Passing : ℕ → List ℕ → ℕ → ℕ → ℕ → ℕ → ℕ → Type 0
Passing n s j i b rest x = Adding b (row_at s i) rest (λ a. count_at n s a j) x

module _ (n : ℕ) (s : List ℕ) (j i b : ℕ) where
  pub passing_start : (x y rest : ℕ) → x ≡ row_at s i → y ≡ 2 ^ b - 1 → rest ≡ bit_and x y → Passing n s j i b rest 0
  passing_start x y rest ex ey er = adding_low b (row_at s i) (λ a. count_at n s a j) y rest ey (rw ex at er)

  pub passing_more : (rest x a c y r : ℕ) → Passing n s j i b rest x → Lowest rest a → c ≡ count_at n s a j → y ≡ (x + c) % 2 ^ 64
      → LowestCleared rest r → Passing n s j i b r y
  passing_more rest x a c y r was l ec ey er = adding_more b (row_at s i) (λ a. count_at n s a j) rest x a y r was l (ey ∙ ap (λ z. (x + z) % 2 ^ 64) ec) er

  pub passing_done : (rest x : ℕ) → Passing n s j i b rest x → rest ≡ 0 → x ≡ passed (edge_at s) (count_at n s) j i b % 2 ^ 64
  unfolding passed
  passing_done rest x was e = adding_done b (row_at s i) (λ a. count_at n s a j) rest x was e

-- ---- path_rank: j is the end, rest what is left of the path p, x the sum so far

-- x and the counts passed over on rest make the rank, modulo 2 ^ 64
pub record Ranking (n : ℕ) (s : List ℕ) (j : ℕ) (p rest : List ℕ) (x : ℕ) : Type 0 where
  pub small : x < 2 ^ 64
  pub adds : (x + passed_over (edge_at s) (count_at n s) j rest) % 2 ^ 64 ≡ passed_over (edge_at s) (count_at n s) j p % 2 ^ 64

module _ (n : ℕ) (s : List ℕ) (j : ℕ) where
  -- a list of no more than one vertex passes nothing over
  passed_none : (rest : List ℕ) → length rest < 2 → passed_over (edge_at s) (count_at n s) j rest ≡ 0
  unfolding passed_over
  passed_none [] l = refl
  passed_none (x ∷ []) l = refl
  passed_none (x ∷ y ∷ q) l = absurd (omega arith)

  module _ (p rest : List ℕ) (x : ℕ) (was : Ranking n s j p rest x) where
    -- b is what stands after a
    pub ranking_more : (left later : List ℕ) (a b y z : ℕ) → rest ≡ a ∷ left → left ≡ b ∷ later
        → y ≡ passed (edge_at s) (count_at n s) j a b % 2 ^ 64 → z ≡ (x + y) % 2 ^ 64 → Ranking n s j p left z
    unfolding passed_over
    ranking_more left later a b y z er el ey ez =
        let here : passed_over (edge_at s) (count_at n s) j rest
        ≡ passed (edge_at s) (count_at n s) j a b + passed_over (edge_at s) (count_at n s) j left
        = rw (er, el) refl in
        record { small = omega arith; adds = omega (arith, was.adds, here) }

    pub ranking_done : length rest < 2 → j ≡ get_or p (length p - 1) 0 → x ≡ path_rank n s p % 2 ^ 64
    ranking_done l ej =
        let same : j ≡ end p = ej ∙ sym (end_places p) in
        let e : x ≡ passed_over (edge_at s) (count_at n s) j p % 2 ^ 64 = omega (arith, passed_none rest l, was.small, was.adds) in
        e ∙ ap (λ (z : ℕ). passed_over (edge_at s) (count_at n s) z p % 2 ^ 64) same

pub ranking_empty : (n : ℕ) (s p : List ℕ) → length p ≡ 0 → 0 ≡ path_rank n s p % 2 ^ 64
ranking_empty n s p e = omega (arith, passed_none n s (end p) p (omega (arith, e)))
