-- The laws of runs: a sheet worked out afresh from a model stays so through a whole list, and the model's run is determined. Assumes
-- nothing.
use mathlib.Core.Path.{◌≡◌, refl, sym, ap, ap₂, subst, ◌∙◌}
use mathlib.Core.List.{List, [], ◌∷◌, ◌++◌}
use Rattle.answer.specs.declared.Answer.{Answer}
use Rattle.sheet_theory.specs.Lent.{Lent}
use Rattle.edit_theory.specs.Edit.{Edit}
use Rattle.edit_theory.specs.Outcome.{edit_answer, edit_after}
use Rattle.edit_theory.specs.Book.{Model}
use Rattle.edit_theory.proofs.FreshLaws.{Modelled}
use Rattle.edit_theory.proofs.StepLaws.{edit_step, step_only}
use Rattle.edit_lists.specs.Run.{Run, done, then, answers, after}

pub run_modelled : (es : List Edit) (m : Model) (s : Lent) → Modelled m s
    → (m' : Model) × Run m es (answers es s) m' × Modelled m' (after es s) × (m'.vertices ≡ m.vertices)
unfolding answers after
run_modelled [] m s h = (m, done, h, refl)
run_modelled (e ∷ es) m s h =
    let p = edit_step m s h e in
    let r = run_modelled es p.0 (edit_after e s) p.2 in
    (r.0, then p.1 r.1, r.2, r.3 ∙ p.3)

pub run_only : {m m₁ m₂ : Model} {es : List Edit} {rs rs' : List Answer} → Run m es rs m₁ → Run m es rs' m₂ → (rs ≡ rs') × (m₁ ≡ m₂)
run_only done done = (refl, refl)
run_only (then {m₂ = c₁} {es = t} {rs = x₁} p r) (then {m₂ = c₂} {rs = x₂} p' r') =
    let u = step_only p p' in
    let r'' : Run _ t x₂ c₂ = subst (λ x. Run x t x₂ c₂) (sym u.1) r' in
    let v = run_only {m₁ = c₁} {m₂ = c₂} {es = t} {rs = x₁} {rs' = x₂} r r'' in
    (ap₂ ◌∷◌ u.0 v.0, v.1)

-- a list of two parts is the second on what the first has left
pub after_append : (es fs : List Edit) (s : Lent) → after (es ++ fs) s ≡ after fs (after es s)
unfolding after
after_append [] fs s = refl
after_append (e ∷ es) fs s = after_append es fs (edit_after e s)

pub answers_append : (es fs : List Edit) (s : Lent) → answers (es ++ fs) s ≡ answers es s ++ answers fs (after es s)
unfolding answers after
answers_append [] fs s = refl
answers_append (e ∷ es) fs s = ap (λ l. edit_answer e s ∷ l) (answers_append es fs (edit_after e s))
