-- Only one answer, and one sheet afterwards, meet what the page `EveryCall` says of an empty sheet, a count, a recount and the test of a
-- stored sheet; and only one list of words what it says of the maker of the sheet's type. Assumes nothing.
use mathlib.Core.Path.{◌≡◌, sym, ap, ◌∙◌}
use mathlib.Core.List.{List}
use Prim.Native.Nat.{ℕ}
use Rattle.graph.proofs.Lists.{exactly_only}
use Rattle.answer.specs.declared.Answer.{Answer}
use Rattle.sheet_theory.specs.Lent.{Lent, lent}
use Rattle.sheet_theory.specs.Valid.{Valid}
use Rattle.sheet_theory.proofs.ValidLaws.{valid_only}
use Rattle.starred.proofs.SheetFields.{SaidOfEmpty, SaidOfPathCount, SaidOfRecount, SaidOfValidate, SaidOfMaker}
use Rattle.starred.proofs.AnswersOnly.{answers_only, tells_only, calls_only, sheets_only}

module _ (n : ℕ) (s : Lent) where
  pub empty_line_only : (r w : Answer) (t u : Lent) → SaidOfEmpty n s r t → SaidOfEmpty n s w u → (r ≡ w) × (t ≡ u)
  empty_line_only r w t u a b =
      calls_only a.0 a.1 b.0 b.1 (λ z x y. valid_only n t u x.0 y.0 (λ i h. x.1 i h ∙ sym (y.1 i h))) (λ e x y. x ∙ sym y)

  pub path_count_line_only : (i j : ℕ) (r w : Answer) → SaidOfPathCount n s i j r → SaidOfPathCount n s i j w → r ≡ w
  path_count_line_only i j r w a b = answers_only a b (λ x y. x ∙ sym y)

  pub recount_line_only : (r w : Answer) (t u : Lent) → SaidOfRecount n s r t → SaidOfRecount n s w u → (r ≡ w) × (t ≡ u)
  recount_line_only r w t u a b =
      calls_only a.0 a.1 b.0 b.1
      (λ z x y.
      sheets_only n s a.0 z t u x.0 y.0 (λ i h. x.1 i h ∙ sym (y.1 i h)) (λ i j hi hj. exactly_only (x.2 i j hi hj) (y.2 i j hi hj)))
      (λ e x y. x ∙ sym y)

  pub validate_line_only : (r w : Answer) → SaidOfValidate n s r → SaidOfValidate n s w → r ≡ w
  validate_line_only r w a b = answers_only a b (tells_only r w (Valid n s))

pub maker_line_only : (l m : List ℕ) → SaidOfMaker l → SaidOfMaker m → l ≡ m
maker_line_only l m a b = ap (λ (x : Lent). x.words) (valid_only 64 (lent l) (lent m) a.0 b.0 (λ i h. a.1 i h ∙ sym (b.1 i h)))
