-- The laws of `src/write.rt`: the records of the edges from one vertex, put by the lowest bit of what is left of its row. Assumes nothing.
use mathlib.Core.Path.{◌≡◌, refl}
use mathlib.Core.List.{List, []}
use Prim.Native.Nat.{ℕ, ◌+◌, ◌-◌, ◌^◌, ◌≤◌}
use native.Mathlib.Nat.{le_refl}
use native.Mathlib.Numerals.{add-one}
use lib.Bits.{bit_and}
use lib.ListN.{length, get_or}
use Rattle.word.specs.Bit.{Lowest, LowestCleared}
use Rattle.word.proofs.VisitLaws.{Visiting, Passes, visiting_low, visiting_here, visiting_more, visiting_done}
use Rattle.text.specs.Text.{Put}
use Rattle.text.proofs.TextLaws.{put_none, Pieces, pieces_start, pieces_room, pieces_more, pieces_done}
use Rattle.record.specs.Record.{insert_letter, encoded}
use Rattle.sheet_theory.specs.Layout.{row_at, edge_at}
use Rattle.sheet_theory.specs.Lent.{Lent}
use Rattle.plan_theory.specs.PlanOf.{edge_bytes, row_bytes}

edge_none : (s : Lent) (i j : ℕ) → edge_at s.words i j ≡ 0 → edge_bytes s i j ≡ []
unfolding edge_bytes
edge_none s i j e = rw e refl

edge_one : (s : Lent) (i j : ℕ) → edge_at s.words i j ≡ 1 → edge_bytes s i j ≡ encoded insert_letter i j
unfolding edge_bytes
edge_one s i j e = rw e refl

-- of the edges from i, for whose records there is room in a buffer from the place at on, those to the vertices that are gone from rest are
-- put, which has made l of it; r is the place after them
abbrev pub Writing : ℕ → Lent → ℕ → List ℕ → ℕ → ℕ → List ℕ → ℕ → Type 0
Writing n s i buffer at rest l r = Visiting n (row_at s.words i) (λ b. Pieces buffer at (edge_bytes s i) n b l r) rest

module _ (n : ℕ) (s : Lent) (i : ℕ) (buffer : List ℕ) (at : ℕ) where
  pub writing_start : (y rest : ℕ) → y ≡ 2 ^ n - 1 → rest ≡ bit_and (get_or s.words i 0) y → at + length (row_bytes n s i) ≤ length buffer
      → Writing n s i buffer at rest buffer at
  writing_start y rest ey er room = visiting_low n (row_at s.words i) _ y rest ey er (pieces_start buffer at (edge_bytes s i) n room)

  module _ (rest : ℕ) (l : List ℕ) (r : ℕ) (was : Writing n s i buffer at rest l r) where
    passes : Passes n (row_at s.words i) (λ b. Pieces buffer at (edge_bytes s i) n b l r)
    passes b h z p = rw add-one at (pieces_more p h {m = l} {q = r} (rw (edge_none s i b z) (put_none l r)))

    -- none is left
    pub writing_done : rest ≡ 0 → Put buffer at (row_bytes n s i) l r
    writing_done z = pieces_done (visiting_done n (row_at s.words i) _ passes rest was z) (le_refl n)

    module _ (b : ℕ) (low : Lowest rest b) where
      pub writing_room : r + length (encoded insert_letter i b) ≤ length l
      writing_room =
          let here = visiting_here n (row_at s.words i) _ passes rest was b low in
          rw (edge_one s i b here.1) at (pieces_room here.2 here.0)

      pub writing_more : (m : List ℕ) (q rest' : ℕ) → Put l r (encoded insert_letter i b) m q → LowestCleared rest rest'
          → Writing n s i buffer at rest' m q
      writing_more m q rest' u e =
          visiting_more n (row_at s.words i) _ passes rest was b low _ rest' e (λ h o p. rw add-one at (pieces_more p h {m = m} {q = q} (rw (edge_one s i b o) u)))
