-- A plan read and a plan written, as the statement about every call has them. Assumes nothing.
use mathlib.Core.Path.{◌≡◌, refl}
use mathlib.Core.Logic.{◌⊎◌, inl, inr}
use mathlib.Core.List.{List, [], ◌∷◌}
use Prim.Native.Nat.{ℕ, suc, ◌+◌, ◌*◌, ◌%◌, ◌<◌}
use lib.ListN.{length}
use Rattle.sums.specs.Sum.{sum}
use Rattle.record.specs.Reader.{record_at}
use Rattle.answer.specs.declared.Answer.{Answer}
use Rattle.answer.specs.Table.{◌gives◌, Conditions}
use Rattle.sheet_theory.specs.Lent.{Lent}
use Rattle.sheet_theory.specs.Valid.{Valid}
use Rattle.sheet_theory.proofs.InWords.{valid_first_words, altering_valid_words}
use Rattle.plan_theory.specs.Records.{number_on, left_by}
use Rattle.plan_theory.specs.Calls.{ReadPlan, WritePlan}
use Rattle.plan_theory.proofs.Meaning.{write_refused}
use Rattle.plan_theory.proofs.InWords.{record_words, read_words, write_words, write_value_words, write_length_words, write_rest_words, write_place_words}
use Rattle.edit_theory.specs.Edit.{insert_edge, delete_edge}
use Rattle.edit_theory.specs.Outcome.{edit_answer}
use Rattle.starred.specs.Calls.{contracts}
use Rattle.starred.specs.EveryCall.{edge, ones, every, Answers, Leaves, Rest, Form, RecordsTaken, PlanRead, RecordGives}
use Rattle.starred.specs.EveryCall.RecordGives.{inserts, deletes, malformed}
use Rattle.starred.specs.EveryCall.PlanRead.{early, taken, stopped}

module _ (n : ℕ) (s : Lent) where
  -- ---- a plan read

  module _ (plan : List ℕ) where
    -- a record by its bytes
    record_gives : (m : ℕ) (q : Lent) → RecordGives contracts n plan m q (number_on n q (record_at plan m)) (left_by n q (record_at plan m))
    record_gives m q =
        elim (record_words n plan m q) [
          | inl w ↦ inserts w.0 w.1 (edit_answer (insert_edge n w.0 w.1) q) w.2 (refl, w.3.1) w.3.0
          | inr w ↦ elim w [ inl w ↦ deletes w.0 w.1 (edit_answer (delete_edge n w.0 w.1) q) w.2 (refl, w.3.1) w.3.0 | inr w ↦ malformed w.0 w.1.0 w.1.1 ]
        ]

    -- it is taken after those before it, where its number is 0
    taken_next : (m : ℕ) (q : Lent) → RecordsTaken contracts n plan s m q → number_on n q (record_at plan m) ≡ 0 → RecordsTaken contracts n plan s (suc m) (left_by n q (record_at plan m))
    taken_next m q t z = (q, t, rw z at (record_gives m q))

    abbrev bad_length : Conditions
    bad_length = ((¬ (length plan % 8 ≡ 0)) ⊎ (32768 < length plan)) gives 13 ∷ []

    pub read_plan_field : (r : Answer) (t : Lent) → ReadPlan n s plan r t → PlanRead contracts n s plan r t
    read_plan_field r t h =
        elim (read_words n plan (RecordsTaken contracts n plan s) taken_next s r t refl h) [
          | inl w ↦ early (altering_valid_words n s bad_length _ w.0) w.1 w.2 w.3 w.4
          | inr w ↦ elim w [
            | inl w ↦ taken (altering_valid_words n s bad_length 0 w.0) w.1 w.2 w.3 w.4 w.5
            | inr w ↦
                stopped w.0 w.1 _ (altering_valid_words n s bad_length 0 w.2) w.3 w.4 (rw w.5 at (record_gives w.0 w.1)) w.6 w.7 w.8 w.9
          ]
        ]

  -- ---- a plan written

  -- the page's line of `write_plan`, said of any answer and of any bytes that are left
  abbrev pub SaidOfWritePlan : List ℕ → Answer → List ℕ → Type 0
  SaidOfWritePlan before r after =
      Answers (every n s ((¬ (Valid n s)) gives 9 ∷ (length before < 8 * ones n s) gives 10 ∷ [])) r (r.value ≡ 8 * ones n s)
      × Leaves r before after (Rest (8 * ones n s) before after
      × ((i j : ℕ) → i < n → j < n → edge s i j ≡ 1 → Form after (sum i (λ a. sum 64 (edge s a)) + sum j (edge s i)) 76 i j))

  pub write_plan_field : (before : List ℕ) (r : Answer) (after : List ℕ) → WritePlan n s before r after → SaidOfWritePlan before r after
  write_plan_field before r after h = (
    record {
      number = valid_first_words n s ((length before < 8 * ones n s) gives 10 ∷ []) r.number (write_words n s before r after h);
      place = h.place;
      accepted = write_value_words n s before r after h;
      refused = λ d. (write_refused n s before r after h d).1;
    },
    (
      λ z. ((write_length_words n s before r after h z, write_rest_words n s before r after h z), write_place_words n s before r after h z),
      λ d. (write_refused n s before r after h d).0,
    ),
  )
