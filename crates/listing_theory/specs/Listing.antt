-- The listing of a plan: what is printed of it, read into the empty sheet of 64 vertices. Definitions only. Assumes nothing.
use Rattle.std.specs.Prelude.{List, ℕ, ◌+◌, length}
use Rattle.answer.specs.declared.Answer.{Answer}
use Rattle.sheet_theory.specs.Layout.{most_vertices}
use Rattle.sheet_theory.specs.Lent.{Lent, empty_lent}
use Rattle.plan_theory.specs.Calls.{most_bytes, length_number, read_answer, read_after}
use Rattle.listing_theory.specs.Lines.{printed}

-- what reading the plan answers and leaves; the empty sheet is valid, so nothing but the length is looked at before the first record
abbrev pub listed_answer : List ℕ → Answer
listed_answer plan = read_answer most_vertices (empty_lent most_vertices) plan (length_number (length plan))

abbrev pub listed_sheet : List ℕ → Lent
listed_sheet plan = read_after most_vertices (empty_lent most_vertices) plan (listed_answer plan)

-- THE LISTING
unfoldable pub listing : List ℕ → List ℕ
listing plan = printed (listed_answer plan) (listed_sheet plan)

-- the bytes that a program has to read of its input: one more than the longest plan has, since a longer input is refused by its length
abbrev pub input_bytes : ℕ
input_bytes = most_bytes + 1
