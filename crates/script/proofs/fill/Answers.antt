use Rattle.std.proofs.Common.{◌≡◌, ℕ, ◌+◌, ◌≤◌, List, ◌++◌, rules, length, take, drop, sym, ap, ◌∙◌, subst, le_refl, drop_at, length-take-le}
use Rattle.std.proofs.lemmas.Slice.{take-put_mid_below}
use Rattle.std.specs.Io.KnownBytes.{Consumes}
use Rattle.std.proofs.KnownBytes.{Consumes-trans}
use borrow.Rule.Slice.PartMut.{put_mid, post_of}
use lib.Seq.{take-add, take-append-le}
use Rattle.script.proofs.fill.Goals as goal

-- after a write from place a on, the first a + n bytes are the first a as before and the first n that were written
put_more : (a k n : ℕ) (xs ys : List ℕ) → a ≤ length xs → n ≤ length ys → take (a + n) (put_mid a k xs ys) ≡ take a xs ++ take n ys
put_more a k n xs ys within fits =
    let front : take a (put_mid a k xs ys) ≡ take a xs = take-put_mid_below a k xs ys a (le_refl a) within in
    let back : drop a (put_mid a k xs ys) ≡ ys ++ post_of a k xs = drop_at (take a xs) _ a (length-take-le a xs within) in
    take-add a n _ ∙ ap (λ l. l ++ take n (drop a (put_mid a k xs ys))) front ∙ ap (λ l. take a xs ++ take n l) back ∙ ap (λ l. take a xs ++ l) (take-append-le n ys _ fits)

pub loop-count-preserved : goal.loop-count-preserved
loop-count-preserved g c =
    let more = c.in_ok-more.ensures in
    let filled = put_more c.loop-count.count _ c.in_ok-more.more c.loop-count.buffer c.read.new.buf c.loop-count.invariant.0 more.bound.0 in
    (search rules, subst (Consumes _ _) (sym filled) (Consumes-trans _ _ _ _ _ c.loop-count.invariant.1 more.bytes.0))
