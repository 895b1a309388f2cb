-- Document 01's plan on its orchard D, with five vertices, and the plan of D, computed from the definitions that the contracts cite.
-- Assumes nothing.
use mathlib.Core.Path.{◌≡◌, refl}
use mathlib.Core.List.{List, [], ◌∷◌, ◌++◌}
use Prim.Native.Nat.{ℕ}
use Rattle.sums.specs.Sum.{sum, delta}
use Rattle.sums.specs.Gather.{gather}
use Rattle.word.specs.Bit.{bit_count, of_bits}
use Rattle.graph.specs.Update.{from_sum, to_sum}
use Rattle.record.specs.Record.{insert_letter, delete_letter, encoded, are_digits, decoded}
use Rattle.answer.specs.Table.{first_true}
use Rattle.answer.specs.Answers.{answer}
use Rattle.sheet_theory.specs.Layout.{size, set_bits, build, redone_word, redone}
use Rattle.sheet_theory.proofs.Examples.{D}
use Rattle.edit_theory.specs.Outcome.{some, some_edge, closes, edited_row, edited_by, edited_count, edited}
use Rattle.plan_theory.specs.Records.{number_on, applied}
use Rattle.plan_theory.specs.PlanOf.{edge_bytes, plan_of}
use Rattle.plan_theory.specs.Calls.{length_number, applied_plan, applied_answer}

-- a record that lays a pipe, and one that takes it up
abbrev L : ℕ → ℕ → List ℕ
L = encoded insert_letter

abbrev T : ℕ → ℕ → List ℕ
T = encoded delete_letter

-- `L 04 00`, `L 03 04`: the second record would close a cycle
pub second_closes : applied_answer 5 (applied_plan 5 D (L 4 0 ++ L 3 4)) ≡ answer 8 2 0
unfolding D gather applied number_on decoded are_digits size first_true some some_edge closes edited edited_row edited_count edited_by redone redone_word build of_bits from_sum to_sum sum delta set_bits bit_count
second_closes = refl

-- the first record that is refused counts: 7 at the second, though the third is malformed
pub absent : applied_answer 5 (applied_plan 5 D (T 0 1 ++ (T 0 1 ++ (0 ∷ 0 ∷ 0 ∷ 0 ∷ 0 ∷ 0 ∷ 0 ∷ 0 ∷ [])))) ≡ answer 7 2 0
unfolding D gather applied number_on decoded are_digits size first_true some some_edge closes edited edited_row edited_count edited_by redone redone_word build of_bits from_sum to_sum sum delta set_bits bit_count
absent = refl

-- the plan of D
pub written_so : plan_of 5 D ≡ L 0 1 ++ (L 0 2 ++ (L 1 3 ++ L 2 3))
unfolding D gather edge_bytes
written_so = refl

-- a byte too few, the greatest length, and one record more
pub lengths : (length_number 7 ≡ 13) × (length_number 32768 ≡ 0) × (length_number 32776 ≡ 13)
unfolding length_number first_true
lengths = (refl, refl, refl)
