-- The records of a plan, one after the other, as the plan reader gives them. Definitions only. Assumes nothing.
use Rattle.std.specs.Prelude.{◌≡◌, Option, MatchOption, List, [], ◌∷◌, map, ℕ, ◌+◌, ◌-◌, ◌*◌, length, take, drop}
use Rattle.std.specs.Int.{div_ceil}
use Rattle.std.specs.List.{range_with_len}
use Rattle.std.specs.Iterator.{YieldsFirst}
use Rattle.record.specs.declared.reader.PlanReader.{PlanReader}
use Rattle.record.specs.Record.{record_bytes, Reading, decoded}

-- what the record k of a plan says, from 0 up: the 8 bytes from 8 × k on, which are malformed too if the end of the plan cuts them off
abbrev pub record_at : List ℕ → ℕ → Reading
record_at plan k = decoded (take record_bytes (drop (record_bytes * k) plan))

-- what the records of a plan say from the record k on, to the last that begins within the plan
unfoldable pub records_from : List ℕ → ℕ → List Reading
records_from plan k = map (record_at plan) (range_with_len k (div_ceil (length plan) record_bytes - k))

-- r is what the record k of a plan says, the first of those from it on; or None, if no record begins there
abbrev pub GivesAt : List ℕ → ℕ → Option Reading → Type 0
GivesAt plan k r = MatchOption r (records_from plan k ≡ []) (λ x. records_from plan k ≡ x ∷ records_from plan (k + 1))

-- what a reader has left to give, from the record that it has got to on
abbrev pub records_left : PlanReader → List Reading
records_left reader = records_from reader.plan.now reader.«record»

-- a reader s gives r and is t then: r is the first of what s has left, or None if nothing is left, and t has got to the next record of the
-- same plan, or has stayed
abbrev pub Reads : PlanReader → Option Reading → PlanReader → Type 0
Reads s r t =
    YieldsFirst records_left s r t × (t.plan ≡ s.plan)
    × MatchOption r (t.«record» ≡ s.«record») (λ x. t.«record» ≡ s.«record» + 1)
