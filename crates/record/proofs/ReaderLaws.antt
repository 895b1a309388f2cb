-- The laws of the plan reader. Assumes nothing.
use mathlib.Core.Path.{◌≡◌, refl, ap}
use mathlib.Core.List.{List, [], ◌∷◌}
use Prim.Native.Nat.{ℕ, suc, ◌+◌, ◌-◌, ◌*◌, ◌≤◌, ◌<◌}
use native.Mathlib.Omega.{arith}
use native.Mathlib.Decide.{dec_lt}
use lib.ListN.{length, take, drop, length-drop}
use lib.Seq.{take_all}
use Rattle.std.proofs.Common.{add-one}
use Rattle.std.specs.Int.{div_ceil}
use Rattle.std.proofs.lemmas.Iterator.{YieldsList}
use Rattle.std.proofs.lemmas.Iterator.Consumers.{YieldsList-from_shown}
use Rattle.record.specs.declared.reader.PlanReader.{PlanReader}
use Rattle.record.specs.Record.{Reading, decoded}
use Rattle.record.specs.Reader.{record_at, records_from, records_left, Reads}

module _ (plan : List ℕ) (k : ℕ) where
  -- ---- what a reader gives that has got to the record k

  pub reading_over : length plan ≤ 8 * k → records_from plan k ≡ []
  unfolding records_from
  reading_over h = let e : div_ceil (length plan) 8 - k ≡ 0 = omega arith in rw e refl

  pub reading_reads : 8 * k < length plan → records_from plan k ≡ record_at plan k ∷ records_from plan (suc k)
  unfolding records_from
  reading_reads h = let e : div_ceil (length plan) 8 - k ≡ suc (div_ceil (length plan) 8 - suc k) = omega arith in rw (e, add-one) refl

  -- ---- what is known of it

  pub reading_read : (x : Reading) (l : List Reading) → records_from plan k ≡ x ∷ l
      → (8 * k < length plan) × (x ≡ record_at plan k) × (l ≡ records_from plan (suc k))
  reading_read x l e =
      elim (dec_lt (8 * k) (length plan)) [
        | yes h ↦ let f = reading_reads h in (h, cc, cc)
        | no h ↦ let f = reading_over (omega arith) in absurd (cc)
      ]

  pub reading_end : records_from plan k ≡ [] → length plan ≤ 8 * k
  reading_end e = elim (dec_lt (8 * k) (length plan)) [ yes h ↦ let f = reading_reads h in absurd (cc) | no h ↦ omega arith ]

  -- ---- `next`: the rest of the plan is all that is left of it

  pub reading_next : 8 * k < length plan → (r : Reading) → r ≡ decoded (take 8 (take (length plan - 8 * k) (drop (8 * k) plan)))
      → records_from plan k ≡ r ∷ records_from plan (k + 1)
  reading_next h r er =
      let one : k + 1 ≡ suc k = omega arith in
      let all : take (length plan - 8 * k) (drop (8 * k) plan) ≡ drop (8 * k) plan
      = take_all (length plan - 8 * k) (drop (8 * k) plan) (omega (arith, length-drop (8 * k) plan)) in
      rw (er, all, one) (reading_reads h)

-- ---- a loop over a reader

-- every run of calls from a reader gives what it has left, and then the end
pub reader_yields : (s : PlanReader) → YieldsList Reads (λ x. x) s (records_left s)
reader_yields = YieldsList-from_shown Reads (λ x. x) records_left (λ s t h. ap length h.0.0) (λ s x t h. h.0)
