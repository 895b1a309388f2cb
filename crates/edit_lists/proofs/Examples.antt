-- A list of edits, computed: the orchard D of document 01 from the empty sheet, with a refused edge and a wrong number of vertices among
-- its edits. Assumes nothing.
use mathlib.Core.Path.{◌≡◌, refl}
use mathlib.Core.List.{List, [], ◌∷◌}
use Rattle.sums.specs.Sum.{sum, delta}
use Rattle.word.specs.Bit.{bit_count, of_bits}
use Rattle.graph.specs.Update.{from_sum, to_sum}
use Rattle.answer.specs.Table.{first_true}
use Rattle.answer.specs.Answers.{answer}
use Rattle.sheet_theory.specs.Layout.{size, set_bits, build, redone_word, redone, empty_sheet}
use Rattle.sheet_theory.specs.Lent.{empty_lent}
use Rattle.edit_theory.specs.Edit.{Edit, insert_edge, insert_edges_at}
use Rattle.edit_theory.specs.Outcome.{some, some_edge, closes, edited_row, edited_by, edited_count, edited}
use Rattle.edit_lists.specs.Run.{answers, after}

pub edits : List Edit
edits = insert_edges_at 5 0 0 6 ∷ insert_edge 4 1 3 ∷ insert_edge 5 1 3 ∷ insert_edge 5 3 0 ∷ insert_edge 5 2 3 ∷ []

pub answered_so : answers edits (empty_lent 5) ≡ answer 0 0 2 ∷ answer 2 0 0 ∷ answer 0 0 3 ∷ answer 8 0 0 ∷ answer 0 0 4 ∷ []
unfolding edits answers empty_sheet size first_true some some_edge closes edited edited_row edited_count edited_by redone redone_word build of_bits from_sum to_sum sum delta set_bits bit_count
answered_so = refl

pub left_so : (after edits (empty_lent 5)).words
    ≡ 6 ∷ 8 ∷ 8 ∷ 0 ∷ 0
    ∷ 1 ∷ 1 ∷ 1 ∷ 2 ∷ 0
    ∷ 0 ∷ 1 ∷ 0 ∷ 1 ∷ 0
    ∷ 0 ∷ 0 ∷ 1 ∷ 1 ∷ 0
    ∷ 0 ∷ 0 ∷ 0 ∷ 1 ∷ 0
    ∷ 0 ∷ 0 ∷ 0 ∷ 0 ∷ 1
    ∷ []
unfolding edits after empty_sheet size first_true some some_edge closes edited edited_row edited_count edited_by redone redone_word build of_bits from_sum to_sum sum delta
left_so = refl
