-- What a call answers: a number, a place and a value (document 01). Definitions only. Assumes nothing.
use Rattle.std.specs.Prelude.{ℕ, zero, suc, Option, unwrap_or, Result, Ok, Err}
use Rattle.answer.specs.declared.Answer.{Answer}
use Rattle.answer.specs.declared.Refusal.{Refusal}
use Rattle.answer.specs.declared.RefusedAt.{RefusedAt}
use Rattle.answer.specs.declared.Refusal.TheVariants.{Vertices, Length, Vertex, StrayBit, SelfLoop, Present, Absent, Cycle, NotValid, Buffer, NoSuchPath, NoPath, PlanLength, Record}

abbrev pub answer : ℕ → ℕ → ℕ → Answer
answer k p v = record { number = k; place = p; value = v }

-- what holds after a call whose number is k: the new where it is 0 (accepted), else the old
abbrev pub decided : {A : Type 0} → ℕ → A → A → A
decided zero new old = new
decided (suc k) new old = old

-- the answer of a call that names no record: the number k, the place 0, and the value v, which is 0 when refused
abbrev pub answered : ℕ → ℕ → Answer
answered k v = answer k 0 (decided k v 0)

-- the number of a refusal: its row of document 01's table
abbrev pub number_of_refusal : Refusal → ℕ
number_of_refusal Vertices = 1
number_of_refusal Length = 2
number_of_refusal Vertex = 3
number_of_refusal StrayBit = 4
number_of_refusal SelfLoop = 5
number_of_refusal Present = 6
number_of_refusal Absent = 7
number_of_refusal Cycle = 8
number_of_refusal NotValid = 9
number_of_refusal Buffer = 10
number_of_refusal NoSuchPath = 11
number_of_refusal NoPath = 12
number_of_refusal PlanLength = 13
number_of_refusal Record = 14

-- the number of an outcome: 0 where nothing was refused
abbrev pub number_of : {A : Type 0} → Result A Refusal → ℕ
number_of (Ok a) = 0
number_of (Err e) = number_of_refusal e

-- the answer of a call that names no record and has this outcome
abbrev pub answer_of : Result ℕ Refusal → Answer
answer_of (Ok v) = answer 0 0 v
answer_of (Err e) = answer (number_of_refusal e) 0 0

-- a refusal of the record at a place, from 1 up, or with None one that names no record
abbrev pub refused_at : Refusal → Option ℕ → RefusedAt
refused_at e p = record { refusal = e; place = p }

-- the number and the place of an outcome that may name a record: 0 where nothing was refused, and the place too where no record is named
abbrev pub number_at : {A : Type 0} → Result A RefusedAt → ℕ
number_at (Ok a) = 0
number_at (Err e) = number_of_refusal e.refusal

abbrev pub place_at : {A : Type 0} → Result A RefusedAt → ℕ
place_at (Ok a) = 0
place_at (Err e) = unwrap_or e.place 0

-- the answer of a call that has this outcome
abbrev pub answer_at : Result ℕ RefusedAt → Answer
answer_at (Ok v) = answer 0 0 v
answer_at (Err e) = answer (number_of_refusal e.refusal) (unwrap_or e.place 0) 0
