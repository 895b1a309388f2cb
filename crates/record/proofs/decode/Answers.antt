-- `record::decode` meets its contract: each way out is a law of CodecLaws. Assumes nothing.
use Rattle.std.proofs.Common.{rules}
use Rattle.record.proofs.CodecLaws.{decode_short, decode_first, decode_second, decode_third, decode_from, decode_to, decode_insert, decode_delete, decode_other}
use Rattle.record.proofs.decode.Goals as goal

pub returns-in_default : goal.returns-in_default
returns-in_default c = search decode_short

pub returns-in_default-2 : goal.returns-in_default-2
returns-in_default-2 c = search decode_third

pub returns-in_default-3 : goal.returns-in_default-3
returns-in_default-3 c = search decode_second

pub returns-in_default-4 : goal.returns-in_default-4
returns-in_default-4 c = search decode_first

pub returns-in_err-from : goal.returns-in_err-from
returns-in_err-from c = search (rules, decode_from)

pub returns-in_err-to : goal.returns-in_err-to
returns-in_err-to c = search (rules, decode_to)

pub returns-in-76 : goal.returns-in-76
returns-in-76 c = search (decode_insert, c.in_ok-from.ensures, c.in_ok-to.ensures)

pub returns-in-84 : goal.returns-in-84
returns-in-84 c = search (decode_delete, c.in_ok-from.ensures, c.in_ok-to.ensures)

pub returns-in_default-letter : goal.returns-in_default-letter
returns-in_default-letter c = search (decode_other, c.in_ok-from.ensures, c.in_ok-to.ensures)
