-- The ways out of the calls. Assumes nothing.
use Rattle.std.proofs.Common.{◌≡◌, None, Result, Err, inr, List, [], ◌∷◌, ℕ, ◌*◌, ◌≤◌, length, refl, sym, ap, ◌∙◌, arith}
use Rattle.text.specs.Text.{written}
use Rattle.answer.specs.declared.Refusal.{Refusal}
use Rattle.answer.specs.declared.RefusedAt.{RefusedAt}
use Rattle.answer.specs.Table.{◌gives◌, Conditions, First}
use Rattle.answer.specs.Answers.{answer, answer_at, number_of_refusal, refused_at}
use Rattle.sheet_theory.specs.Layout.{set_bits}
use Rattle.sheet_theory.specs.Lent.{Lent, Lends}
use Rattle.sheet_theory.specs.Valid.{Valid, not_valid}
use Rattle.answer.proofs.AnswerLaws.{decided_old}
use Rattle.answer.proofs.OutcomeLaws.{refusal_some}
use Rattle.sheet_theory.proofs.Meaning.{valid_edges_le}
use Rattle.sheet_theory.proofs.ShapeLaws.{shape_passed}
use Rattle.sheet_theory.proofs.ValidLaws.{accepted_valid, valid_passed}
use Rattle.plan_theory.specs.PlanOf.{plan_of}
use Rattle.plan_theory.specs.Calls.{read_conditions, ReadPlan, ShortBuffer, WritePlan}
use Rattle.plan_theory.proofs.PlanOfLaws.{plan_length}

-- ---- the check of a sheet of the right shape that has to be valid

module _ (n : ℕ) (s : Lent) (shape : Lends n s) where
  pub check_passed : First (not_valid n s []) 0 → Valid n s
  check_passed f = accepted_valid n s [] (shape_passed n s shape (not_valid n s []) 0 f)

-- ---- read_plan

module _ (n : ℕ) (s : Lent) (plan : List ℕ) where
  pub read_stops : (o : Result ℕ RefusedAt) (e : Refusal) → o ≡ Err (refused_at e None)
      → First (read_conditions n s plan) (number_of_refusal e) → ReadPlan n s plan (answer_at o) s
  read_stops o e eo f = rw eo record {
    k = number_of_refusal e;
    first = f;
    answers = sym (decided_old (number_of_refusal e) _ _ (refusal_some e));
    leaves = sym (decided_old (number_of_refusal e) _ s (refusal_some e));
  }

-- ---- write_plan: b is the number of set bits

module _ (n : ℕ) (s : Lent) (p : List ℕ) (v : Valid n s) (b : ℕ) (eb : b ≡ set_bits n s.words) where
  abbrev buffer : Conditions
  buffer = ShortBuffer n s (length p) gives 10 ∷ []

  pub write_few : b ≤ 2016
  write_few = omega (arith, eb, valid_edges_le n s v)

  module _ (l : 8 * b ≤ length p) where
    bytes : length (plan_of n s) ≡ 8 * b
    bytes = plan_length n s v ∙ ap (λ (x : ℕ). 8 * x) (sym eb)

    -- what `write_rows` asks
    pub write_fits : length (plan_of n s) ≤ length p
    write_fits = omega (arith, bytes)

    pub write_whole : (q : List ℕ) → q ≡ written (plan_of n s) p → WritePlan n s p (answer 0 0 (8 * b)) q
    write_whole q eq = record {
      number = valid_passed n s v buffer 0 (inr (λ c. omega (arith, c, eb), refl));
      place = refl;
      value = sym bytes;
      bytes = eq;
    }
