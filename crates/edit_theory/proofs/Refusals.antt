-- THE TABLE for the edits: for every edit and all words, valid or not, the number is k exactly if condition k of document 01's table
-- holds and none before it, and 0 exactly if none holds; and a refusal changes nothing. Assumes nothing.
use mathlib.Core.Path.{◌≡◌, refl}
use mathlib.Core.Logic.{◌↔◌}
use Prim.Native.Nat.{ℕ}
use Rattle.answer.specs.Table.{First}
use Rattle.answer.specs.Answers.{answer}
use Rattle.sheet_theory.specs.Lent.{Lent}
use Rattle.answer.proofs.TableLaws.{first_true_lem, first_iff}
use Rattle.answer.proofs.AnswerLaws.{decided_old, answered_not}
use Rattle.sheet_theory.proofs.ShapeLaws.{Sized, length_test_lem}
use Rattle.edit_theory.specs.Edit.{Edit}
use Rattle.edit_theory.specs.Book.{opened}
use Rattle.edit_theory.specs.Table.{most_parallel, asked}
use Rattle.edit_theory.specs.Outcome.{edit_grounds, edit_conditions, edit_tests, edit_number, edit_made, edit_answer, edit_after}
use Rattle.edit_theory.proofs.TestLaws.{closes_reflects}
use Rattle.edit_theory.proofs.ConditionLaws.{table_agree}

pub edit_first : (e : Edit) (s : Lent) → Sized e.vertices s (asked e most_parallel (opened e.vertices s) (edit_grounds e s)) (edit_number e s)
edit_first e s = record {
  first = first_true_lem (edit_conditions e s) (edit_tests e s)
      (table_agree e s (opened e.vertices s) (edit_grounds e s) (length_test_lem e.vertices s) (λ d i j hi hj. refl)
      (λ d a i p. closes_reflects e.vertices s.words _ _ _));
}

pub edit_table : (e : Edit) (s : Lent) (k : ℕ) → ((edit_answer e s).number ≡ k) ↔ First (edit_conditions e s) k
edit_table e s k = first_iff (edit_conditions e s) (edit_number e s) k (edit_first e s).first

-- a refused edit has the value 0 and changes no word
pub edit_refused : (e : Edit) (s : Lent) → ¬ ((edit_answer e s).number ≡ 0) → (edit_answer e s ≡ answer (edit_number e s) 0 0) × (edit_after e s ≡ s)
edit_refused e s d = (answered_not (edit_number e s) _ d, decided_old (edit_number e s) (edit_made e s) s d)
