-- The records of a plan: how many there are, which bytes each of them is, and how they are taken one by one from the front. Assumes
-- nothing.
use mathlib.Core.Path.{◌≡◌, sym, ap, ap₂, ◌∙◌}
use mathlib.Core.List.{List, [], ◌∷◌, ◌++◌}
use Prim.Native.Nat.{ℕ, zero, suc, ◌+◌, ◌-◌, ◌*◌, ◌/◌, ◌%◌, ◌≤◌, ◌<◌}
use native.Mathlib.Omega.{arith}
use lib.ListN.{length, take, drop}
use lib.Seq.{drop-drop}
use Rattle.std.proofs.Common.{map}
use Rattle.std.specs.Int.{div_ceil}
use Rattle.std.specs.List.{range_with_len}
use Rattle.sums.specs.Gather.{gather}
use Rattle.sums.proofs.SumLaws.{sum_const}
use Rattle.sums.proofs.GatherLaws.{gather_none, gather_first, gather_cong, gather_length}
use Rattle.record.specs.Record.{Reading, decoded}
use Rattle.record.specs.Reader.{record_at, records_from}
use Rattle.plan_theory.specs.Records.{records}

-- the first m records of some bytes, taken from the front
unfoldable pub first_records : ℕ → List ℕ → List Reading
first_records zero b = []
first_records (suc m) b = decoded (take 8 b) ∷ first_records m (drop 8 b)

-- the record k of what comes after 8 bytes is the record after k
record_later : (b : List ℕ) (k : ℕ) → record_at (drop 8 b) k ≡ record_at b (suc k)
record_later b k =
    let e : 8 + 8 * k ≡ 8 * suc k = omega arith in
    ap (λ (l : List ℕ). decoded (take 8 l)) (drop-drop (8 * k) 8 b ∙ ap (λ (j : ℕ). drop j b) e)

first_are : (m : ℕ) (b : List ℕ) → gather m (λ k. record_at b k ∷ []) ≡ first_records m b
unfolding first_records
first_are zero b = gather_none (λ k. record_at b k ∷ [])
first_are (suc m) b =
    gather_first m (λ k. record_at b k ∷ [])
    ∙ ap (λ (l : List Reading). record_at b 0 ∷ l)
    (gather_cong m _ _ (λ k h. ap (λ (x : Reading). x ∷ []) (sym (record_later b k))) ∙ first_are m (drop 8 b))

pub records_first : (plan : List ℕ) → records plan ≡ first_records (length plan / 8) plan
records_first plan = first_are (length plan / 8) plan

-- a reader gives them, where all are whole
each_in_range : (f : ℕ → Reading) (m k : ℕ) → gather m (λ j. f (k + j) ∷ []) ≡ map f (range_with_len k m)
each_in_range f zero k = gather_none (λ j. f (k + j) ∷ [])
each_in_range f (suc m) k =
    let here : k + 0 ≡ k = omega arith in
    let next : (j : ℕ) → k + suc j ≡ k + 1 + j = λ j. omega arith in
    gather_first m (λ j. f (k + j) ∷ [])
    ∙ ap₂ (λ (i : ℕ) (l : List Reading). f i ∷ l) here
    (gather_cong m _ _ (λ j h. ap (λ (i : ℕ). f i ∷ []) (next j)) ∙ each_in_range f m (k + 1))

pub records_given : (plan : List ℕ) → length plan % 8 ≡ 0 → records_from plan 0 ≡ records plan
unfolding records_from
records_given plan w =
    let count : div_ceil (length plan) 8 - 0 ≡ length plan / 8 = omega arith in
    let none : (j : ℕ) → 0 + j ≡ j = λ j. omega arith in
    ap (λ (m : ℕ). map (record_at plan) (range_with_len 0 m)) count ∙ sym (each_in_range (record_at plan) (length plan / 8) 0)
    ∙ gather_cong (length plan / 8) _ _ (λ j h. ap (λ (i : ℕ). record_at plan i ∷ []) (none j))

-- one for each 8 bytes
pub records_length : (plan : List ℕ) → length (records plan) ≡ length plan / 8
records_length plan = gather_length (length plan / 8) (λ k. record_at plan k ∷ []) ∙ omega (arith, sum_const (length plan / 8) 1)

-- of the first m records of b, the one after k others is the record k
from_split : (m : ℕ) (b : List ℕ) (before rest : List Reading) (x : Reading) → first_records m b ≡ before ++ (x ∷ rest)
    → (length before < m) × (x ≡ record_at b (length before))
unfolding first_records
from_split zero b [] rest x e = absurd (omega (arith, ap length e))
from_split zero b (y ∷ before) rest x e = absurd (omega (arith, ap length e))
from_split (suc m) b [] rest x e = (omega arith, cc e)
from_split (suc m) b (y ∷ before) rest x e =
    let r = from_split m (drop 8 b) before rest x (cc e) in (omega (arith, r.0), r.1 ∙ record_later b (length before))

-- of all records of a plan, and its 8 bytes are in the plan
pub records_split : (plan : List ℕ) (before rest : List Reading) (x : Reading) → records plan ≡ before ++ (x ∷ rest)
    → (8 * suc (length before) ≤ length plan) × (x ≡ record_at plan (length before))
records_split plan before rest x e =
    let r = from_split _ plan before rest x (sym (records_first plan) ∙ e) in (omega (arith, r.0), r.1)
