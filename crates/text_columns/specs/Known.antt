-- What the bytes of a column spell where it is known to be right.
use Rattle.std.specs.Prelude.{ℕ, ◌+◌, ◌*◌, ◌%◌, List, [], ◌∷◌}

-- the number that the low four bits of each byte spell as digits after the number a
unfoldable pub low_from : ℕ → List ℕ → ℕ
low_from a [] = a
low_from a (b ∷ r) = low_from (a * 10 + b % 16) r
