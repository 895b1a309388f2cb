-- What the public calls answer and leave, for every n, all words and all bytes. Definitions only. Assumes nothing.
use Rattle.std.specs.Prelude.{◌≡◌, ◌⊎◌, not, ◌||◌, List, [], ◌∷◌, ℕ, ◌*◌, ◌%◌, ◌<◌, ltb, eqb, length}
use Rattle.text.specs.Text.{written}
use Rattle.record.specs.Record.{record_bytes}
use Rattle.answer.specs.declared.Answer.{Answer}
use Rattle.answer.specs.Table.{◌gives◌, Conditions, First, first_true}
use Rattle.answer.specs.Answers.{answer, decided}
use Rattle.sheet_theory.specs.Layout.{set_bits}
use Rattle.sheet_theory.specs.Lent.{Lent}
use Rattle.sheet_theory.specs.Valid.{valid_conditions, altering_valid}
use Rattle.plan_theory.specs.Records.{records, Applied, applied}
use Rattle.plan_theory.specs.PlanOf.{plan_of}

-- ---- read_plan: a plan, taken whole or not at all

-- the greatest length of a plan
abbrev pub most_bytes : ℕ
most_bytes = 32768

-- 13: the length is not a multiple of 8, or over 32,768 bytes
abbrev pub BadPlan : List ℕ → Type 0
BadPlan plan = (¬ (length plan % record_bytes ≡ 0)) ⊎ (most_bytes < length plan)

-- the number that a length of so many bytes gives, by a test: 13, or 0
unfoldable pub length_number : ℕ → ℕ
length_number bytes = first_true ((not (eqb (bytes % record_bytes) 0) || ltb most_bytes bytes) gives 13 ∷ [])

-- what is looked for before the first record
abbrev pub read_conditions : ℕ → Lent → List ℕ → Conditions
read_conditions n s plan = altering_valid n s (BadPlan plan gives 13 ∷ [])

-- how far the records come, the first of them at the place 1
abbrev pub applied_plan : ℕ → Lent → List ℕ → Applied
applied_plan n s plan = applied n (records plan) s 1

-- what the records answer: the number and the place of the first that is refused, or the set bits of all rows after the last
abbrev pub applied_answer : ℕ → Applied → Answer
applied_answer n p = answer p.number p.place (decided p.number (set_bits n p.left.words) 0)

-- what read_plan answers, where k is what is found before the first record; and what it leaves, where r is what it answers
abbrev pub read_answer : ℕ → Lent → List ℕ → ℕ → Answer
read_answer n s plan k = decided k (applied_answer n (applied_plan n s plan)) (answer k 0 0)

abbrev pub read_after : ℕ → Lent → List ℕ → Answer → Lent
read_after n s plan r = decided r.number (applied_plan n s plan).left s

-- read_plan answers r and turns s into t
pub record ReadPlan (n : ℕ) (s : Lent) (plan : List ℕ) (r : Answer) (t : Lent) : Type 0 where
  pub k : ℕ
  pub first : First (read_conditions n s plan) k
  pub answers : r ≡ read_answer n s plan k
  pub leaves : t ≡ read_after n s plan r

-- ---- write_plan: the edges of a sheet as a plan

-- 10: len bytes are under 8 an edge
abbrev pub ShortBuffer : ℕ → Lent → ℕ → Type 0
ShortBuffer n s len = len < record_bytes * set_bits n s.words

abbrev pub write_conditions : ℕ → Lent → ℕ → Conditions
write_conditions n s len = valid_conditions n s (ShortBuffer n s len gives 10 ∷ [])

-- write_plan answers r and turns the buffer p into q
pub record WritePlan (n : ℕ) (s : Lent) (p : List ℕ) (r : Answer) (q : List ℕ) : Type 0 where
  pub number : First (write_conditions n s (length p)) r.number
  pub place : r.place ≡ 0
  pub value : r.value ≡ decided r.number (length (plan_of n s)) 0
  pub bytes : q ≡ decided r.number (written (plan_of n s) p) p
