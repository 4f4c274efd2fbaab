-- A number that counts only where two numbers are the same.
use Rattle.std.specs.Prelude.{cond, ℕ, eqb}

-- v where x is y, else 0
unfoldable pub when_same : ℕ → ℕ → ℕ → ℕ
when_same x y v = cond (eqb x y) v 0
