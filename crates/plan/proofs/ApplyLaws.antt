-- The laws of `src/apply.rt`: one record, and the records of a plan one after the other, as the plan reader gives them. Assumes nothing.
use mathlib.Core.Path.{◌≡◌, refl, sym, ap, ap₂, ◌∙◌}
use mathlib.Core.Bool.{Bool, true, false}
use mathlib.Core.List.{List, [], ◌∷◌}
use Prim.Native.Nat.{ℕ, suc, ◌+◌, ◌/◌, ◌%◌, ◌≤◌}
use native.Mathlib.Omega.{arith}
use lib.ListN.{length, get_or}
use lib.Seq.{ext_get_or}
use Rattle.std.proofs.Common.{Some, unwrap_or, Result, Ok, Err}
use Rattle.record.specs.declared.Record.TheVariants.{Insert, Delete}
use Rattle.record.specs.Record.{Reading}
use Rattle.record.specs.Reader.{records_from}
use Rattle.answer.specs.declared.Answer.{Answer}
use Rattle.answer.specs.declared.Refusal.{Refusal}
use Rattle.answer.specs.declared.RefusedAt.{RefusedAt}
use Rattle.answer.specs.Answers.{answer, decided, number_of_refusal, number_of, answer_of, number_at, place_at, refused_at}
use Rattle.answer.proofs.OutcomeLaws.{refusal_some}
use Rattle.sheet_theory.specs.Layout.{most_vertices, size, Shape, set_bits}
use Rattle.sheet_theory.specs.Lent.{Lent, lent}
use Rattle.sheet_theory.proofs.LayoutLaws.{size_le}
use Rattle.answer.proofs.AnswerLaws.{decided_old}
use Rattle.sheet.specs.Fill.{over}
use Rattle.sheet.proofs.FillLaws.{length_puts, over_front}
use Rattle.edit_theory.specs.Edit.{edge_edit, insert_edge, delete_edge}
use Rattle.edit_theory.specs.Outcome.{edit_answer, edit_after}
use Rattle.edit_theory.proofs.Refusals.{edit_refused}
use Rattle.plan_theory.specs.Records.{records, number_on, left_by, Applied, applied}
use Rattle.plan_theory.specs.Calls.{applied_plan}
use Rattle.plan.specs.Internal.{Reached, AppliedAll}
use Rattle.plan_theory.proofs.RecordsLaws.{records_length, records_given}
use Rattle.plan_theory.proofs.AppliedLaws.{applied_place, applied_next, applied_here}

-- ---- one record

pub number_answered : (o : Result ℕ Refusal) (r : Answer) → answer_of o ≡ r → number_of o ≡ r.number
number_answered (Ok v) r e = ap (λ (x : Answer). x.number) e
number_answered (Err f) r e = ap (λ (x : Answer). x.number) e

-- the record that inserts an edge, or deletes it
abbrev pub edge_record : Bool → ℕ → ℕ → Reading
edge_record true u v = Ok (Insert u v)
edge_record false u v = Ok (Delete u v)

edge_number : (inserts : Bool) (n : ℕ) (s : Lent) (u v : ℕ) → (edit_answer (edge_edit inserts n u v) s).number ≡ number_on n s (edge_record inserts u v)
unfolding number_on
edge_number true n s u v = refl
edge_number false n s u v = refl

edge_left : (inserts : Bool) (n : ℕ) (s : Lent) (u v : ℕ) → edit_after (edge_edit inserts n u v) s ≡ left_by n s (edge_record inserts u v)
edge_left true n s u v = refl
edge_left false n s u v = refl

-- r is what the edit answers, and t what it leaves
module _ (inserts : Bool) (n : ℕ) (s : Lent) (x : Reading) (u v : ℕ) (ex : x ≡ edge_record inserts u v) where
  pub record_edge : (r : Answer) → r ≡ edit_answer (edge_edit inserts n u v) s → r.number ≡ number_on n s x
  record_edge r e = rw (e, ex) (edge_number inserts n s u v)

  pub left_edge : (t : Lent) → t ≡ edit_after (edge_edit inserts n u v) s → t ≡ left_by n s x
  left_edge t e = rw (e, ex) (edge_left inserts n s u v)

-- a record that is refused leaves every word
left_refused : (n : ℕ) (s : Lent) (x : Reading) → ¬ (number_on n s x ≡ 0) → left_by n s x ≡ s
unfolding number_on
left_refused n s (Ok (Insert u v)) d = (edit_refused (insert_edge n u v) s d).1
left_refused n s (Ok (Delete u v)) d = (edit_refused (delete_edge n u v) s d).1
left_refused n s (Err e) d = refl

-- ---- the records of a plan

-- the first k records are applied and have left t, and rest is what the others say
pub record Applying (n : ℕ) (s : Lent) (plan : List ℕ) (rest : List Reading) (k : ℕ) (t : Lent) : Type 0 where
  pub within : k + length rest ≡ length plan / 8
  pub goes_on : applied_plan n s plan ≡ applied n rest t (suc k)

module _ (n : ℕ) (s : Lent) (plan : List ℕ) where
  pub applying_start : length plan % 8 ≡ 0 → (rest : List Reading) → rest ≡ records_from plan 0 → (k : ℕ) → k ≡ 0 → Applying n s plan rest k s
  applying_start w rest er k ek =
      rw (ek, er, records_given plan w) record { within = omega (arith, records_length plan); goes_on = refl }

  module _ (rest : List Reading) (k : ℕ) (t : Lent) (was : Applying n s plan rest k t) where
    -- nothing is left
    pub applying_end : rest ≡ [] → {A : Type 0} (o : Result A RefusedAt) → number_at o ≡ 0 → place_at o ≡ 0 → Reached (applied_plan n s plan) o t
    unfolding applied
    applying_end none o eo ep =
        let f : applied_plan n s plan ≡ record { number = 0; place = 0; left = t } = was.goes_on ∙ ap (λ (l : List Reading). applied n l t (suc k)) none in
        record {
          number = eo ∙ ap (λ (p : Applied). p.number) (sym f);
          place = ep ∙ ap (λ (p : Applied). p.place) (sym f);
          left = ap (λ (p : Applied). p.left) (sym f);
        }

    -- x is the next record, l is what those after it say, and u what it left
    module _ (x : Reading) (l : List Reading) (more : rest ≡ x ∷ l) (u : Lent) (eu : u ≡ left_by n t x) where
      opens : applied_plan n s plan ≡ applied n (x ∷ l) t (suc k)
      opens = was.goes_on ∙ ap (λ (m : List Reading). applied n m t (suc k)) more

      pub applying_refused : {A : Type 0} (e : Refusal) → number_of_refusal e ≡ number_on n t x → (i : ℕ) → i ≡ k
          → Reached {A = A} (applied_plan n s plan) (Err (refused_at e (Some (i + 1)))) u
      applying_refused e ee i ei =
          let d : ¬ (number_on n t x ≡ 0) = λ z. refusal_some e (ee ∙ z) in
          let f = opens ∙ applied_here n x l t (suc k) d in
          let one : i + 1 ≡ suc k = omega arith in
          record {
            number = ee ∙ ap (λ (p : Applied). p.number) (sym f);
            place = one ∙ ap (λ (p : Applied). p.place) (sym f);
            left = eu ∙ left_refused n t x d ∙ ap (λ (p : Applied). p.left) (sym f);
          }

      pub applying_more : 0 ≡ number_on n t x → (i : ℕ) → i ≡ k + 1 → Applying n s plan l i u
      applying_more z i ei =
          let one : i ≡ suc k = omega arith in
          rw (one, eu) record { within = omega (arith, was.within, ap length more); goes_on = opens ∙ applied_next n x l t (suc k) (sym z) }

-- a sheet has at most the words of the greatest
pub sheet_long : (n : ℕ) (s : List ℕ) → Shape n s → length s ≤ size most_vertices
sheet_long n s h = omega (arith, h.long, size_le n h.high)

-- ---- apply_core: o is the outcome of the records, and t what they left

module _ {A : Type 0} (n : ℕ) (s plan : List ℕ) (o : Result A RefusedAt) (t : List ℕ) (h : Reached (applied_plan n (lent s) plan) o (lent t)) where
  abbrev reached : Applied
  reached = applied_plan n (lent s) plan

  -- the words kept aside are those of s, and put back they are s
  pub all_refused : (e : RefusedAt) → o ≡ Err e → (z kept u : List ℕ) (m : ℕ) → m ≡ length s → length s ≤ length z
      → kept ≡ over z 0 (λ (j : ℕ). get_or s j 0) (length s) → length t ≡ length s → u ≡ over t 0 (λ (j : ℕ). get_or kept j 0) m
      → AppliedAll n (lent s) plan (answer (number_of_refusal e.refusal) (unwrap_or e.place 0) 0) (lent u)
  all_refused e eo z kept u m em w ek et eu =
      let some : ¬ (number_of_refusal e.refusal ≡ 0) = refusal_some e.refusal in
      let en : number_of_refusal e.refusal ≡ reached.number = ap number_at (sym eo) ∙ h.number in
      let ep : unwrap_or e.place 0 ≡ reached.place = ap place_at (sym eo) ∙ h.place in
      record {
        answered = ap₂ (λ (x y : ℕ). answer x y 0) en ep ∙ ap (answer reached.number reached.place) (sym (decided_old reached.number _ 0 (λ q. some (en ∙ q))));
        left = ap lent back ∙ sym (decided_old (number_of_refusal e.refusal) _ (lent s) some);
      }
    where
      back : u ≡ s
      back =
          let long : length u ≡ length s = ap length eu ∙ length_puts t (λ j. 0 + j) (λ j. get_or kept j 0) m ∙ et in
          ext_get_or 0 u s long
          (λ k q. over_front t u _ m k eu (omega arith) (omega arith) ∙ over_front z kept _ (length s) k ek w (omega arith))

  pub all_accepted : number_at o ≡ 0 → (v : ℕ) → v ≡ set_bits n t → AppliedAll n (lent s) plan (answer 0 0 v) (lent t)
  all_accepted z v ev =
      let en : reached.number ≡ 0 = sym h.number ∙ z in
      record {
        answered = ap (answer 0 0) (ev ∙ ap (λ (x : Lent). set_bits n x.words) h.left)
            ∙ sym (ap₂ (λ (x y : ℕ). answer x y (decided x (set_bits n reached.left.words) 0)) en (applied_place n (records plan) (lent s) 1 en));
        left = h.left;
      }
