-- crate::decimal meets its contract: a word of digits is text, and `parse` reads it. Assumes nothing.
use Rattle.std.proofs.Common.{rules, tests, ◌≡◌, true}
use Rattle.std.specs.Char.{is_ascii_digit}
use Rattle.std.specs.List.{list_all}
use Rattle.std.specs.Str.Parse.{digits_value}
use Rattle.std.proofs.lemmas.Fmt.{IsAscii-from_digits}
use Rattle.std.proofs.lemmas.Iterator.{YieldsList-from_slice}
use Rattle.std.proofs.lemmas.Iterator.Search.{all_from_yields_List}
use Rattle.std.proofs.lemmas.Str.{IsUtf8-from_ascii}
use Rattle.std.proofs.lemmas.Str.Parse.{IsNumeralModel, numerals_by_value}
use Rattle.script.proofs.decimal.Goals as goal

-- a list of digits, by the test of each byte
digits : IsNumeralModel (λ ds. list_all is_ascii_digit ds ≡ true) (digits_value 10)
digits = numerals_by_value _ (search rules)

pub returns-then-not-all-clause-written : goal.returns-then-not-all-clause-written
returns-then-not-all-clause-written c =
    let all = all_from_yields_List is_ascii_digit _ _ c.all.result c.all.ensures.ran (YieldsList-from_slice c.args.word.now cc) (λ x b q k. search (rules, tests)) in
    let from = digits.from c.args.word.now in
    search (rules, all, from)

pub returns-in_err-ok-clause-written : goal.returns-in_err-ok-clause-written
returns-in_err-ok-clause-written c =
    let ascii = IsAscii-from_digits c.args.word.now in
    search (rules, ascii, IsUtf8-from_ascii)
