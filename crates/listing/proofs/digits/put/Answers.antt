-- `listing::digits::put` meets its contract: the digits that stand at the front are the decimal. Assumes nothing.
use Rattle.std.proofs.Common.{rules, arith}
use Rattle.listing_theory.proofs.DecimalLaws.{decimal_room, decimal_put}
use Rattle.listing.proofs.digits.put.Goals as goal

pub put-requires : goal.put-requires
put-requires c = search (rules, decimal_room, arith)

pub returns : goal.returns
returns c = search (decimal_put, arith)
