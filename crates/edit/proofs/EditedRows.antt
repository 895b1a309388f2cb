-- The laws of the rows after an edit: a row with the bits of a mask set or cleared, and the rows of a mask taken one after the other.
-- Assumes nothing.
use mathlib.Core.Path.{◌≡◌, refl, sym, ap, ◌∙◌}
use mathlib.Core.Logic.{⊎_elim}
use mathlib.Core.Bool.{Bool, true, false, ◌&&◌}
use mathlib.Core.List.{List}
use Prim.Native.Nat.{ℕ, suc, ◌+◌, ◌-◌, ◌^◌, ◌≤◌, ◌<◌}
use native.Mathlib.Nat.{le_refl}
use native.Mathlib.Decide.{ℕ_discrete}
use native.Mathlib.Omega.{arith}
use lib.Dec.{eqb}
use lib.Bits.{bit_and, bit_or}
use lib.ListN.{length, get_or, set, length-set}
use lib.Seq.{get_or-set_same, get_or-set_other}
use Rattle.word.specs.Bit.{bit, has_bit, Lowest, LowestCleared}
use Rattle.word.proofs.BitLaws.{bit_cases}
use Rattle.word.proofs.VisitLaws.{Visiting, Passes, visiting_start, visiting_more, visiting_done}
use Rattle.word.proofs.MaskLaws.{bit_of_and, bit_of_or, bit_not}
use Rattle.sheet_theory.specs.Layout.{size, row_at, count_at, edge_at}
use Rattle.sheet_theory.proofs.LayoutLaws.{counts_within, length_redone, row_redone, count_redone, rest_redone, redone_ext}
use Rattle.edit_theory.specs.Edit.{named_at, marked}
use Rattle.edit_theory.specs.Outcome.{edited_row}
use Rattle.edit.specs.Internal.{Marked, rows_edited}
use Rattle.edit_theory.proofs.EditedRow.{has_pow, named_none, named_other, named_both, bit_edited, edited_only, edited_lt}

-- ---- a row with the bits of a mask set, or cleared

pub mark_set : (inserts : Bool) (row mask : ℕ) → inserts ≡ true → Marked inserts row mask (bit_or row mask)
mark_set inserts row mask e j l = rw e (bit_of_or row mask j ∙ ⊎_elim (λ z. rw z (omega arith)) (λ o. rw o (omega arith)) (bit_cases mask j))

pub mark_cleared : (inserts : Bool) (row mask : ℕ) → mask < 2 ^ 64 → inserts ≡ false → Marked inserts row mask (bit_and row ((2 ^ 64 - 1) - mask))
mark_cleared inserts row mask h e j l =
    let x : ℕ = bit ((2 ^ 64 - 1) - mask) j in
    let c : x + bit mask j ≡ 1 = bit_not 64 mask j h l in
    rw e
    (bit_of_and row ((2 ^ 64 - 1) - mask) j
    ∙ ⊎_elim
    (λ (z : bit mask j ≡ 0). let o : x ≡ 1 = omega arith in rw (z, o) (omega arith))
    (λ (o : bit mask j ≡ 1). let z : x ≡ 0 = omega arith in rw (o, z) (omega arith))
    (bit_cases mask j))

-- ---- the rows of a mask, by the lowest bit of what is left of it

-- t is s with the rows of the mask below k done
pub record Begun (inserts : Bool) (s : List ℕ) (v mask : ℕ) (t : List ℕ) (k : ℕ) : Type 0 where
  pub long : length t ≡ length s
  pub done : (i : ℕ) → i < k → row_at t i ≡ edited_row inserts s v mask 0 i
  pub rest : (i : ℕ) → k ≤ i → get_or t i 0 ≡ get_or s i 0

abbrev pub Marking : Bool → ℕ → List ℕ → ℕ → ℕ → ℕ → List ℕ → Type 0
Marking inserts n s v mask rest t = Visiting n mask (Begun inserts s v mask t) rest

module _ (inserts : Bool) (n : ℕ) (s : List ℕ) (v mask : ℕ) where
  pub marking_start : mask < 2 ^ n → Marking inserts n s v mask mask s
  marking_start h = visiting_start n mask _ h record { long = refl; done = λ i q. absurd (omega arith); rest = λ i q. refl }

  module _ (small : (i : ℕ) → get_or s i 0 < 2 ^ 64) (t : List ℕ) where
    -- u is t with row k as the edit leaves it
    begun_more : (u : List ℕ) (k : ℕ) → Begun inserts s v mask t k → length u ≡ length t → ((i : ℕ) → ¬ (i ≡ k) → get_or u i 0 ≡ get_or t i 0)
        → row_at u k < 2 ^ 64 → ((j : ℕ) → j < 64 → bit (row_at u k) j ≡ marked inserts (has_bit mask k && eqb j v) (edge_at s k j)) → Begun inserts s v mask u (suc k)
    begun_more u k was long other hu e = record {
      long = long ∙ was.long;
      done = λ i q. elim (ℕ_discrete i k) [
        | yes p ↦ rw p (edited_only inserts s v mask 0 k (row_at u k) hu (λ j l. e j l ∙ rw (named_none v mask k j)))
        | no d ↦ other i d ∙ was.done i (omega (arith, d))
      ];
      rest = λ i q. other i (omega arith) ∙ was.rest i (omega arith);
    }

    passes : Passes n mask (Begun inserts s v mask t)
    passes k h z was =
        begun_more t k was refl (λ i d. refl) (rw (was.rest k (le_refl k)) (small k)) (λ j l. rw (z, was.rest k (le_refl k)))

    -- one row done: r is row i with the bit v marked
    pub marking_more : (rest i r : ℕ) → length s ≡ size n → Marking inserts n s v mask rest t → Lowest rest i → r < 2 ^ 64
        → Marked inserts (row_at t i) (2 ^ v) r → (rest' : ℕ) → LowestCleared rest rest' → Marking inserts n s v mask rest' (set t i r)
    marking_more rest i r long was l hr m rest' e =
        visiting_more n mask _ passes rest was i l _ rest' e
        (λ h o p.
        let stored = get_or-set_same t i r 0 (omega (arith, p.long, counts_within n)) in
        begun_more (set t i r) i p (length-set t i r) (λ k d. get_or-set_other t i k r 0 d) (rw stored hr)
        (λ j q. rw (stored, o, ← p.rest i (le_refl i)) (m j q ∙ rw (has_pow v j))))

    -- with no row left
    pub marking_done : (rest : ℕ) → Marking inserts n s v mask rest t → rest ≡ 0 → t ≡ rows_edited inserts n s v mask 0
    marking_done rest was e =
        let all = visiting_done n mask _ passes rest was e in
        redone_ext n _ _ s t all.long all.done (λ i j hi hj. all.rest _ (omega arith)) (λ k hk. all.rest k (omega arith))

-- ---- and the row of v on top

pub rows_edited_lem : (inserts : Bool) (n : ℕ) (s t : List ℕ) (v a b r : ℕ) → length s ≡ size n → v < n → t ≡ rows_edited inserts n s v a 0
    → r < 2 ^ 64 → Marked inserts (row_at t v) b r → set t v r ≡ rows_edited inserts n s v a b
rows_edited_lem inserts n s t v a b r long hv et hr m =
    redone_ext n (edited_row inserts s v a b) (count_at n s) s (set t v r) (length-set t v r ∙ same)
    row
    (λ i j hi hj. get_or-set_other t v _ r 0 (omega arith) ∙ ap (λ (l : List ℕ). count_at n l i j) et ∙ count_redone n _ _ s long i j hi hj)
    (λ k hk. get_or-set_other t v k r 0 (omega arith) ∙ ap (λ (l : List ℕ). get_or l k 0) et ∙ rest_redone n _ _ s k hk)
  where
    same : length t ≡ length s
    same = ap length et ∙ length_redone n _ _ s

    was : (i : ℕ) → i < n → row_at t i ≡ edited_row inserts s v a 0 i
    was i hi = ap (λ (l : List ℕ). row_at l i) et ∙ row_redone n _ _ s long i hi

    on_top : (j : ℕ) → j < 64 → bit r j ≡ marked inserts (named_at v a b v j) (edge_at s v j)
    on_top j l =
        m j l
        ∙ ap (λ (x : ℕ). marked inserts (has_bit b j) x) (ap (λ (x : ℕ). bit x j) (was v hv) ∙ bit_edited inserts s v a 0 v j l)
        ∙ named_both inserts v a b j (edge_at s v j)

    row : (i : ℕ) → i < n → row_at (set t v r) i ≡ edited_row inserts s v a b i
    row i hi =
        elim (ℕ_discrete i v) [
          | yes e ↦ rw e (get_or-set_same t v r 0 (omega (arith, same, counts_within n)) ∙ edited_only inserts s v a b v r hr on_top)
          | no d ↦
              get_or-set_other t v i r 0 d
              ∙ was i hi
              ∙ edited_only inserts s v a b i _ (edited_lt inserts s v a 0 i)
              (λ j l. bit_edited inserts s v a 0 i j l ∙ ap (λ (x : Bool). marked inserts x (edge_at s i j)) (sym (named_other v a b i j d)))
        ]
