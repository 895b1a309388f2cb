-- The records of a plan, and what they do when they are applied to a sheet one after the other. Definitions only. Assumes nothing.
use Rattle.std.specs.Prelude.{Ok, Err, List, [], ◌∷◌, ◌++◌, ℕ, suc, ◌/◌, length}
use Rattle.sums.specs.Gather.{gather}
use Rattle.record.specs.declared.Record.TheVariants.{Insert, Delete}
use Rattle.record.specs.Record.{Reading, record_bytes, record_number}
use Rattle.record.specs.Reader.{record_at}
use Rattle.answer.specs.Answers.{decided}
use Rattle.sheet_theory.specs.Lent.{Lent}
use Rattle.edit_theory.specs.Edit.{Edit, insert_edge, delete_edge}
use Rattle.edit_theory.specs.Outcome.{edit_answer, edit_after}

-- ---- what a plan says

-- its records, one for each 8 bytes, in order
abbrev pub records : List ℕ → List Reading
records plan = gather (length plan / record_bytes) (λ k. record_at plan k ∷ [])

-- what f makes of the edit of a record; a malformed one has no edit, and then it is none
abbrev pub by_edit {ℓ} : {A : Type ℓ} → ℕ → (Edit → A) → A → Reading → A
by_edit n f none (Ok (Insert u v)) = f (insert_edge n u v)
by_edit n f none (Ok (Delete u v)) = f (delete_edge n u v)
by_edit n f none (Err e) = none

abbrev pub record_edits : ℕ → Reading → List Edit
record_edits n = by_edit n (λ e. e ∷ []) []

-- the edits of the records l, in order
unfoldable pub edits : ℕ → List Reading → List Edit
edits n [] = []
edits n (x ∷ l) = record_edits n x ++ edits n l

-- ---- one record on a sheet s of n vertices

-- the number by which it is refused, and 0 if it is not: that of its form, and of a record of the form that of its edit
unfoldable pub number_on : ℕ → Lent → Reading → ℕ
number_on n s x = decided (record_number x) (by_edit n (λ e. (edit_answer e s).number) 0 x) (record_number x)

-- what it leaves of s
abbrev pub left_by : ℕ → Lent → Reading → Lent
left_by n s = by_edit n (λ e. edit_after e s) s

-- ---- records one after the other

-- how far a list of records has come: the number and the place of the record that is refused, and 0 and 0 if none is; and what those
-- before it have left
pub record Applied : Type 0 where
  pub number : ℕ
  pub place : ℕ
  pub left : Lent

-- the records l on s, up to the first that is refused; the first of them has the place p
unfoldable pub applied : ℕ → List Reading → Lent → ℕ → Applied
applied n [] s p = record { number = 0; place = 0; left = s }
applied n (x ∷ l) s p = decided (number_on n s x) (applied n l (left_by n s x) (suc p)) (record { number = number_on n s x; place = p; left = s })
