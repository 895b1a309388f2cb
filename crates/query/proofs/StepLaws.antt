-- The laws of a step of the walk over a sheet: the edges are tried by the lowest bit of what is left of a row. Assumes nothing.
use Rattle.std.proofs.Common.{◌≡◌, ℕ, ◌+◌, ◌-◌, ◌^◌, ◌≤◌, ◌<◌, Some, None, List, arith}
use lib.Bits.{bit_and}
use Rattle.sums.specs.Sum.{sum}
use Rattle.word.specs.Bit.{Lowest, LowestCleared}
use Rattle.word.proofs.VisitLaws.{Visiting, Passes, visiting_low, visiting_here, visiting_more, visiting_done}
use Rattle.sheet_theory.specs.Layout.{row_at, count_at, edge_at}
use Rattle.sheet_theory.proofs.ValidLaws.{edge_le}
use Rattle.query_theory.specs.PassedOver.{passed}
use Rattle.query.specs.Internal.{Stepped}
use Rattle.query_theory.proofs.WalkLaws.{passed_skip, passed_next, tried_goes, tried_passes}

-- of the edges from i those to the vertices that are gone from rest are tried, and `left` is left of k
abbrev pub Trying : ℕ → List ℕ → ℕ → ℕ → ℕ → ℕ → ℕ → Type 0
Trying n s j i k rest left = Visiting n (row_at s i) (λ b. k ≡ passed (edge_at s) (count_at n s) j i b + left) rest

module _ (n : ℕ) (s : List ℕ) (j i k : ℕ) where
  pub trying_start : (x y rest : ℕ) → x ≡ row_at s i → y ≡ 2 ^ n - 1 → rest ≡ bit_and x y → Trying n s j i k rest k
  unfolding passed sum
  trying_start x y rest ex ey er = visiting_low n (row_at s i) _ y rest ey (rw ex at er) (omega arith)

  module _ (rest left : ℕ) (was : Trying n s j i k rest left) where
    passes : Passes n (row_at s i) (λ b. k ≡ passed (edge_at s) (count_at n s) j i b + left)
    passes b h z p = omega (arith, passed_skip n (edge_at s) (count_at n s) j (edge_le s) i b z)

    module _ (b x : ℕ) (l : Lowest rest b) (ex : x ≡ count_at n s b j) where
      pub trying_goes : left < x → Stepped n s i j k (Some (record { vertex = b; left = left }))
      trying_goes h =
          let here = visiting_here n (row_at s i) _ passes rest was b l in
          (here.0, tried_goes n (edge_at s) (count_at n s) j (edge_le s) i k b left here.0 (omega (arith, here.1)) here.2 (rw ex at h))

      pub trying_more : x ≤ left → (r y : ℕ) → LowestCleared rest r → y ≡ left - x → Trying n s j i k r y
      trying_more h r y er ey =
          visiting_more n (row_at s i) _ passes rest was b l _ r er
          (λ q o p. omega (arith, passed_next n (edge_at s) (count_at n s) j (edge_le s) i b (omega arith)))

    pub trying_passes : rest ≡ 0 → Stepped n s i j k None
    trying_passes z = (left, tried_passes n (edge_at s) (count_at n s) j (edge_le s) i k left (visiting_done n (row_at s i) _ passes rest was z))
