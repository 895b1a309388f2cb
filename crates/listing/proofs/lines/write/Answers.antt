-- `listing::lines::write` meets its contract: each way out is a law of the lines. Assumes nothing.
use Rattle.std.proofs.Common.{Ok, Err, refl, arith}
use Rattle.answer.specs.Answers.{number_of_refusal, answer_at}
use Rattle.answer.proofs.OutcomeLaws.{refusal_some}
use Rattle.listing_theory.proofs.LineLaws.{refused_le, pipes_le, lines_le, printed_refused, printed_accepted}
use Rattle.listing.proofs.lines.write.Goals as goal

pub put_refused-requires : goal.put_refused-requires
put_refused-requires c = omega (arith, refused_le c.unwrap_or.result (number_of_refusal c.in-Err.refused.refusal))

pub put_pipes-first-requires : goal.put_pipes-first-requires
put_pipes-first-requires c = omega (arith, pipes_le c.in-Ok.edges)

pub put_lines-requires : goal.put_lines-requires
put_lines-requires c = omega (arith, pipes_le c.in-Ok.edges, lines_le c.args.sheet.now.words)

pub returns-in-Ok : goal.returns-in-Ok
returns-in-Ok c =
    let answered = answer_at (Ok c.in-Ok.edges) in
    rw c.in-Ok.is
    (printed_accepted answered _ c.args.out.now _ _ refl c.put_pipes-first.ensures _ _ c.put_lines.ensures (omega arith))

pub returns-in-Err : goal.returns-in-Err
returns-in-Err c =
    let answered = answer_at (Err c.in-Err.refused) in
    let some = refusal_some c.in-Err.refused.refusal in
    rw c.in-Err.is (printed_refused answered _ c.args.out.now _ _ some (rw c.unwrap_or.ensures at c.put_refused.ensures))
