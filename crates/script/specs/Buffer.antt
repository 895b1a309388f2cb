-- The buffer for the input of a program. Definitions only. Assumes nothing.
use Rattle.std.specs.Prelude.{ℕ}

-- how many bytes it has
abbrev pub buffer_bytes : ℕ
buffer_bytes = 65536
