-- `word::wrapping_sub` meets its contract: a word is less than 2 ^ 64, so it is its own remainder. Assumes nothing.
use Rattle.std.proofs.Common.{◌≡◌, ◌%◌, ◌^◌, refl, arith}
use Rattle.word.specs.Wrap.{minus}
use Rattle.word.proofs.wrapping_sub.Goals as goal

pub returns : goal.returns
unfolding minus
returns c = let e : c.args.b % 2 ^ 64 ≡ c.args.b = omega (arith, c.ranges.b.fits) in rw e refl
