-- A figure as a signed number, and a signed number as a figure.
use Rattle.std.specs.Prelude.{ℕ, zero, suc, true, cond, ℤ, pos, negsuc}
use Rattle.digits.specs.declared.Figure.{Figure}
use Rattle.digits.specs.Digits.{plain}

unfoldable pub minus : ℕ → ℤ
minus zero = pos 0
minus (suc n) = negsuc n

unfoldable pub signed_of : Figure → ℤ
signed_of z = cond z.negative (minus z.size) (pos z.size)

unfoldable pub figure_signed : ℤ → Figure
figure_signed (pos n) = plain n
figure_signed (negsuc n) = record { negative = true; size = suc n }
