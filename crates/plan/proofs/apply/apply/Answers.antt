-- `plan::apply::apply` meets its contract: each way out of the loop, and round it, is a law of ApplyLaws. Assumes nothing.
use Rattle.std.proofs.Common.{◌≡◌, ◌+◌, Some, Ok, Err, rules}
use Rattle.answer.specs.declared.Refusal.{Refusal}
use Rattle.answer.specs.Answers.{refused_at}
use Rattle.plan.proofs.ApplyLaws.{applying_start, applying_end, applying_refused, applying_more}
use Rattle.plan.proofs.apply.apply.Goals as goal

pub loop-k-init : goal.loop-k-init
loop-k-init c =
    let reader = c.enumerate-k-items.ensures.source in
    let first = c.enumerate-k-items.ensures.count in
    applying_start _ _ _ c.requires _ (cc) _ (cc)

pub returns-in_err-map_err : goal.returns-in_err-map_err
returns-in_err-map_err c =
    let given = c.in-Some.ensures.steps in
    let refused : (e : Refusal) × (c.apply_record.result ≡ Err e) × (c.from_residual.result ≡ Err (refused_at e (Some (c.in-Some.k + 1))))
    = search rules in
    let told = rw refused.1 at c.apply_record.ensures.number in
    rw refused.2 (search applying_refused)

pub loop-k-preserved : goal.loop-k-preserved
loop-k-preserved c =
    let given = c.in-Some.ensures.steps in
    let accepted : c.apply_record.result ≡ Ok c.in_ok-map_err.field-0 = search rules in
    let told = rw accepted at c.apply_record.ensures.number in
    search applying_more

pub returns : goal.returns
returns c = let given = c.in-None.ensures.steps in search applying_end
