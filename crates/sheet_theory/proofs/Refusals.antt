-- THE TABLE. For every n, every length, all words and all other arguments: a call's number is k exactly if condition k of document
-- 01's table holds and none before it, and 0 exactly if none holds; and a refusal has the value 0 and changes no word. Assumes nothing.
use mathlib.Core.Path.{◌≡◌}
use mathlib.Core.Logic.{◌↔◌}
use mathlib.Core.List.{[]}
use Prim.Native.Nat.{ℕ}
use Rattle.answer.specs.Table.{First}
use Rattle.answer.specs.Answers.{answer}
use Rattle.sheet_theory.specs.Lent.{Lent, empty_lent}
use Rattle.sheet_theory.specs.Conditions.{vertex_conditions, vertex_tests, sized_tests}
use Rattle.sheet_theory.specs.Calls.{empty_conditions, empty_number, empty_answer, empty_after, path_count_conditions, path_count_number, path_count_answer}
use Rattle.answer.proofs.TableLaws.{first_iff, first_true_lem}
use Rattle.answer.proofs.AnswerLaws.{decided_old, answered_not}
use Rattle.sheet_theory.proofs.ShapeLaws.{Sized, sized_agree, vertices_agree}

pub empty_first : (n : ℕ) (s : Lent) → Sized n s [] (empty_number n s)
empty_first n s = record { first = first_true_lem (empty_conditions n s) (sized_tests n s []) (sized_agree n s [] [] (λ h. tt)) }

pub empty_table : (n : ℕ) (s : Lent) (k : ℕ) → ((empty_answer n s).number ≡ k) ↔ First (empty_conditions n s) k
empty_table n s k = first_iff (empty_conditions n s) _ k (empty_first n s).first

pub empty_refused : (n : ℕ) (s : Lent) → ¬ ((empty_answer n s).number ≡ 0) → (empty_answer n s ≡ answer (empty_number n s) 0 0) × (empty_after n s ≡ s)
empty_refused n s d = (answered_not (empty_number n s) 0 d, decided_old (empty_number n s) (empty_lent n) s d)

pub path_count_first : (n : ℕ) (s : Lent) (i j : ℕ) → Sized n s (vertex_conditions n i j []) (path_count_number n s i j)
path_count_first n s i j = record {
  first = first_true_lem (path_count_conditions n s i j) (sized_tests n s (vertex_tests n i j []))
      (sized_agree n s (vertex_conditions n i j []) (vertex_tests n i j []) (λ h. vertices_agree n i j [] [] tt));
}

pub path_count_table : (n : ℕ) (s : Lent) (i j k : ℕ) → ((path_count_answer n s i j).number ≡ k) ↔ First (path_count_conditions n s i j) k
path_count_table n s i j k = first_iff (path_count_conditions n s i j) _ k (path_count_first n s i j).first

pub path_count_refused : (n : ℕ) (s : Lent) (i j : ℕ) → ¬ ((path_count_answer n s i j).number ≡ 0) → path_count_answer n s i j ≡ answer (path_count_number n s i j) 0 0
path_count_refused n s i j d = answered_not (path_count_number n s i j) _ d
