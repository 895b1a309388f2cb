-- The bytes of a plan that the refusal 14 points at. Assumes nothing.
use mathlib.Core.Path.{◌≡◌, refl, sym, ◌∙◌}
use mathlib.Core.List.{List}
use Prim.Native.Nat.{ℕ, suc, ◌*◌, ◌≤◌}
use lib.ListN.{length, take, drop}
use Rattle.std.proofs.Common.{Ok, Err}
use Rattle.record.specs.declared.Record.TheVariants.{Insert, Delete}
use Rattle.record.specs.Record.{Reading, malformed, OfForm}
use Rattle.record.proofs.RecordLaws.{malformed_iff}
use Rattle.answer.proofs.ByNumber.{first_absent}
use Rattle.edit_theory.specs.Edit.{insert_edge, delete_edge}
use Rattle.edit_theory.specs.Book.{Model}
use Rattle.edit_theory.specs.Model.{model_conditions}
use Rattle.plan_theory.specs.Records.{records}
use Rattle.plan_theory.specs.Taken.{RecordNumber, Stops}
use Rattle.plan_theory.proofs.RecordsLaws.{records_split}

-- the 8 bytes at the place where 14 stops are not of the form
pub stops_malformed : (m : Model) (plan : List ℕ) (p : ℕ) → Stops m (records plan) 14 p
    → (k : ℕ) × (p ≡ suc k) × (8 * suc k ≤ length plan) × (¬ (OfForm (take 8 (drop (8 * k) plan))))
stops_malformed m plan p o =
    let r = records_split plan o.before o.rest o.at o.split in
    (length o.before, o.place, r.0, (malformed_iff _).0 (sym r.1 ∙ only o.at o.number))
  where
    -- no edit of one edge has this number
    only : (x : Reading) → RecordNumber o.model x 14 → x ≡ Err malformed
    only (Ok (Insert u v)) f = absurd (first_absent (model_conditions o.model (insert_edge o.model.vertices u v)) 14 f refl)
    only (Ok (Delete u v)) f = absurd (first_absent (model_conditions o.model (delete_edge o.model.vertices u v)) 14 f refl)
    only (Err x) f = refl
