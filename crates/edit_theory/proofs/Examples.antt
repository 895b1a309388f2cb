-- Edits, computed from the definitions that the contracts cite: the order of the conditions on document 01's orchard D, with five vertices,
-- and sheets that are not valid. Assumes nothing.
use mathlib.Core.Path.{◌≡◌, refl}
use mathlib.Core.List.{[], ◌∷◌}
use Rattle.sums.specs.Sum.{sum}
use Rattle.word.specs.Bit.{of_bits}
use Rattle.word.specs.Wrap.{minus}
use Rattle.graph.specs.Update.{from_sum, to_sum}
use Rattle.answer.specs.Table.{first_true}
use Rattle.answer.specs.Answers.{answer}
use Rattle.sheet_theory.specs.Layout.{size, build, redone_word, redone}
use Rattle.sheet_theory.specs.Lent.{lent}
use Rattle.sheet_theory.proofs.Examples.{D}
use Rattle.edit_theory.specs.Edit.{insert_edge, insert_edges_at, delete_edges_at}
use Rattle.edit_theory.specs.Outcome.{some, some_edge, edited_row, edited_by, edited_count, edited, edit_answer, edit_after}

-- each number, with the condition of the next one true as well where there is one
pub other_length : edit_answer (insert_edge 4 4 4) D ≡ answer 2 0 0
unfolding D size first_true
other_length = refl

pub no_vertex : edit_answer (insert_edges_at 5 5 32 0) D ≡ answer 3 0 0
unfolding D size first_true
no_vertex = refl

pub stray_into : edit_answer (insert_edges_at 5 0 33 0) D ≡ answer 4 0 0
unfolding D size first_true
stray_into = refl

pub present_into : edit_answer (insert_edges_at 5 1 1 1) D ≡ answer 6 0 0
unfolding D size first_true some some_edge
present_into = refl

-- 5 comes before 6: 0 to 0, with 0 to 1 that is there
pub loop_first : edit_answer (insert_edges_at 5 0 1 2) D ≡ answer 5 0 0
unfolding D size first_true some some_edge
loop_first = refl

-- a damaged sheet with an edge from 0 to itself, which both masks name: one bit is cleared, once, and the count is 5 - 50 + 25
pub struck_once : edit_after (delete_edges_at 1 0 1 1) (lent (1 ∷ 5 ∷ [])) ≡ lent (0 ∷ 18446744073709551596 ∷ [])
unfolding size first_true some some_edge edited edited_row edited_count edited_by redone redone_word build of_bits from_sum to_sum sum minus
struck_once = refl
