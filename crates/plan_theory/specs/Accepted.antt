-- What holds of a plan that is accepted. Definitions only. Assumes nothing.
use Rattle.std.specs.Prelude.{◌≡◌, List, map, ℕ, length, replicate}
use Rattle.record.specs.Record.{Reading}
use Rattle.answer.specs.declared.Answer.{Answer}
use Rattle.answer.specs.Answers.{answer}
use Rattle.sheet_theory.specs.Layout.{set_bits}
use Rattle.sheet_theory.specs.Lent.{Lent}
use Rattle.sheet_theory.specs.Valid.{Valid}
use Rattle.edit_theory.specs.Book.{Model, opened}
use Rattle.edit_theory.specs.Model.{Fresh}
use Rattle.edit_lists.specs.Run.{Run, answers, after}
use Rattle.edit_lists.specs.WholeList.{WholeList}
use Rattle.plan_theory.specs.Records.{records, edits}
use Rattle.plan_theory.specs.Taken.{Taken}

-- the answers rs: one for each record of l, and its number is 0
abbrev pub Accepted : List Reading → List Answer → Type 0
Accepted l rs = map (λ (r : Answer). r.number) rs ≡ replicate (length l) 0

-- the plan is accepted on the sheet s of n vertices, with the answer r, and leaves t
pub record AcceptedPlan (n : ℕ) (s : Lent) (plan : List ℕ) (r : Answer) (t : Lent) : Type 0 where
  -- it is a list of edits, one for each record, applied one after the other to a valid sheet and all accepted; so what is said of whole lists
  -- of edits (demand 3) is said of plans
  pub valid_before : Valid n s
  pub leaves : t ≡ after (edits n (records plan)) s
  pub whole_list : WholeList n s (edits n (records plan))
  pub accepted : Accepted (records plan) (answers (edits n (records plan)) s)
  -- the model takes the records, which is its run of these edits, and t is the sheet worked out afresh from it, and valid
  pub model : Model
  pub taken : Taken (opened n s) (records plan) model
  pub run : Run (opened n s) (edits n (records plan)) (answers (edits n (records plan)) s) model
  pub fresh : Fresh model t
  pub valid_after : Valid n t
  -- the value is the number of set bits in all rows
  pub answered : r ≡ answer 0 0 (set_bits n t.words)
