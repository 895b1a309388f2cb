-- Computed examples of the definitions of specs/. Assumes nothing.
use Rattle.std.proofs.Common.{◌≡◌, ◌-◌, ◌^◌, refl}
use Rattle.sums.specs.Sum.{sum}
use Rattle.word.specs.Bit.{bit, with_bit, without_bit, bit_count}
use Rattle.word.specs.Wrap.{minus}

pub bit_lowest : bit 6 0 ≡ 0
bit_lowest = refl

pub bit_highest : bit (2 ^ 63) 63 ≡ 1
bit_highest = refl

pub set_again : with_bit 5 0 ≡ 5
unfolding with_bit
set_again = refl

pub clear_absent : without_bit 5 1 ≡ 5
unfolding without_bit
clear_absent = refl

pub count_all : bit_count (2 ^ 64 - 1) ≡ 64
unfolding bit_count sum
count_all = refl

pub minus_below_zero : minus 1 2 ≡ 2 ^ 64 - 1
unfolding minus
minus_below_zero = refl
