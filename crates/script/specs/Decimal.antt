-- Words that write decimals. Definitions only. Assumes nothing.
use Rattle.std.specs.Prelude.{List, ℕ, ◌<◌, ◌^◌}
use Rattle.std.specs.Str.Parse.{IsNumeral, digits_value}

-- a word of one or more digits, and nothing else, whose value 64 bits hold
abbrev pub IsDecimal : List ℕ → Type 0
IsDecimal word = IsNumeral 10 word × (digits_value 10 word < 2 ^ 64)
