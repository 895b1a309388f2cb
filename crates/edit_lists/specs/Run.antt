-- Lists of edits, made one after the other: by the reference model, and on a sheet. Definitions only. Assumes nothing.
use Rattle.std.specs.Prelude.{List, [], ◌∷◌}
use Rattle.answer.specs.declared.Answer.{Answer}
use Rattle.sheet_theory.specs.Lent.{Lent}
use Rattle.edit_theory.specs.Edit.{Edit}
use Rattle.edit_theory.specs.Outcome.{edit_answer, edit_after}
use Rattle.edit_theory.specs.Book.{Model}
use Rattle.edit_theory.specs.Model.{Step}

-- m, given the edits es one after the other, answers rs and is m' at the end
pub data Run : Model → List Edit → List Answer → Model → Type 0 where
  done : {m : Model} → Run m [] [] m
  then : {m m₁ m₂ : Model} {e : Edit} {es : List Edit} {r : Answer} {rs : List Answer}
      → Step m e r m₁ → Run m₁ es rs m₂ → Run m (e ∷ es) (r ∷ rs) m₂

-- what the edits es answer on s, each on the words that the one before it has left, and what they leave: by the definitions that the
-- contracts of the four calls cite
unfoldable pub answers : List Edit → Lent → List Answer
answers [] s = []
answers (e ∷ es) s = edit_answer e s ∷ answers es (edit_after e s)

unfoldable pub after : List Edit → Lent → Lent
after [] s = s
after (e ∷ es) s = after es (edit_after e s)
