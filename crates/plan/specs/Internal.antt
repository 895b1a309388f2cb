-- What the internal functions ask and promise. No public call's contract cites these. Definitions only. Assumes nothing.
use Rattle.std.specs.Prelude.{◌≡◌, Result, List, ℕ}
use Rattle.answer.specs.declared.Answer.{Answer}
use Rattle.answer.specs.declared.RefusedAt.{RefusedAt}
use Rattle.answer.specs.Answers.{number_at, place_at}
use Rattle.sheet_theory.specs.Lent.{Lent}
use Rattle.plan_theory.specs.Records.{Applied}
use Rattle.plan_theory.specs.Calls.{read_answer, read_after}

-- the records have come as far as p: the outcome o has its number and place, and t is what they have left
pub record Reached {A : Type 0} (p : Applied) (o : Result A RefusedAt) (t : Lent) : Type 0 where
  pub number : number_at o ≡ p.number
  pub place : place_at o ≡ p.place
  pub left : t ≡ p.left

-- the records have been applied, all or none: r is what they answer, and t what they leave
pub record AppliedAll (n : ℕ) (s : Lent) (plan : List ℕ) (r : Answer) (t : Lent) : Type 0 where
  pub answered : r ≡ read_answer n s plan 0
  pub left : t ≡ read_after n s plan r
