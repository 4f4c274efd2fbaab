-- Figures that a form has room for.
use Rattle.std.specs.Prelude.{ℕ, ◌/◌, ◌^◌, ◌≤◌, ◌<◌, ◌≡◌, true, length, Some}
use Rattle.digits.specs.declared.Form.{Form}
use Rattle.digits.specs.declared.Figure.{Figure}
use Rattle.digits.specs.Digits.{cap, signed_text}

-- the figure z can be written in the form f and read again
pub record Fits (f : Form) (z : Figure) : Type 0 where
  pub within : z.size ≤ cap
  pub sign : z.negative ≡ true → (f.signed ≡ true) × (0 < z.size)
  pub digits : (most : ℕ) → f.digits ≡ Some most → z.size / 10 ^ f.decimals < 10 ^ most
  pub width : (most : ℕ) → f.width ≡ Some most → length (signed_text f z) ≤ most
