-- `vertex_counts::sum_successors` meets its contract: the first n words are 0, and the counts from the successors of i are added to them, with
-- one at i. Assumes nothing.
use Rattle.std.proofs.Common.{◌≡◌, ℕ, ◌+◌, ◌≤◌, ◌<◌, List, length, get_or, replicate, ap, ◌∙◌, length-take-le, arith, rules}
use native.Mathlib.Nat.{zero-add}
use lib.ListN.{length-replicate, get_or-replicate}
use Rattle.sheet.proofs.SliceLaws.{replaced_long, replaced_in}
use Rattle.vertex_counts.proofs.CountsLaws.{successors_summed, summed_front}
use Rattle.vertex_counts.proofs.sum_successors.Goals as goal

pub returns : goal.returns
returns c =
    let a = c.args in
    let n = a.sheet.n in
    let room : n ≤ length a.t.now = search rules in
    let full : length a.t.now ≡ 64 = search rules in
    let zeros : c.fill.new.self ≡ replicate n 0 = c.fill.ensures.after (λ y e. e) ∙ ap (λ (k : ℕ). replicate k 0) (length-take-le n a.t.now room) in
    let long : length c.fill.new.self ≡ n = ap length zeros ∙ length-replicate {A = ℕ} n 0 in
    let inside : 0 + n ≤ length a.t.now = omega (arith, room) in
    let whole = replaced_long a.t.now c.fill.new.self 0 n inside long ∙ full in
    let front = λ (j : ℕ) (q : j < n).
    rw (zero-add j) at (replaced_in a.t.now c.fill.new.self 0 n inside long j q) ∙ ap (λ (l : List ℕ). get_or l j 0) zeros ∙ get_or-replicate {A = ℕ} n j 0 0 q in
    successors_summed n a.sheet.words.now _ a.i _ a.sheet.shape.high c.requires.0
    (rw c.row.ensures at (summed_front n a.sheet.words.now _ _ _ whole front c.combine_counts.ensures)) c.wrapping_add.ensures
