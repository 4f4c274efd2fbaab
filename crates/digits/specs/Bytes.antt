-- Bytes of numbers.
use Rattle.std.specs.Prelude.{ℕ}

-- the digit 0
abbrev pub zero_byte : ℕ
zero_byte = 48
