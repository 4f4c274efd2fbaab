-- A number right in its column: behind its blanks it stands with no sign, and is too short for the cap.
use Rattle.std.proofs.lemmas.Grind.{common_steps}
use Prim.Native.Nat.{ℕ, ◌^◌, ◌≤◌}
use mathlib.Core.Path.{◌≡◌, refl, ◌∙◌}
use mathlib.Core.Bool.{Bool, true}
use mathlib.Core.List.{List}
use native.Mathlib.Nat.{pow-le-pow_right}
use native.Mathlib.Omega.{arith}
use lib.ListN.{length, drop, length-drop}
use Rattle.std.specs.Prelude.{Option, None}
use Rattle.digits.specs.declared.Form.{Form}
use Rattle.digits.specs.Digits.{blanks, cap, is_plain, plain_size, has_minus, is_signed, signed_figure, trimmed_by, trimmed, is_number, figure_of, size_reading}
use Rattle.text_rules.specs.declared.Column.{Column}
use Rattle.text_rules.specs.Columns.{column_form}
use Rattle.text_rules.specs.Well.{most_width}
use Rattle.text_columns.proofs.Cells.{cell_blank}
use Rattle.text_columns.specs.Read.{right_form, number_size, cell_size}

-- what stands behind the blanks has the column's form with no width
pub number_bare : (c : Column) (s : List ℕ)
    → size_reading (is_plain (column_form c None) (drop (blanks s) s)) (plain_size (column_form c None) (drop (blanks s) s))
    ≡ number_size (right_form c.digits c.decimals) s
unfolding number_size right_form is_number figure_of trimmed trimmed_by is_signed signed_figure has_minus is_plain plain_size
number_bare c s = refl

-- the same of the field that the code reads
module _ (s : List ℕ) {r : List ℕ} (behind : r ≡ drop (blanks s) s) where
  pub rest_few : length s ≤ most_width → 10 ^ length r ≤ cap
  rest_few h = grind (arith, common_steps, behind, length-drop, pow-le-pow_right)

  pub cell_number : (c : Column) → {used : Bool} → used ≡ true → {f : Form} → f ≡ column_form c None
      → {n : Option ℕ} → n ≡ size_reading (is_plain f r) (plain_size f r) → n ≡ cell_size used c.digits c.decimals s
  unfolding cell_size
  cell_number c u is e = e ∙ rw (is, behind, u) (number_bare c s)

pub ruleset cells = (cell_blank, rest_few, cell_number)
