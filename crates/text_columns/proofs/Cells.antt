-- What is read of a column with a number is what the definitions say of it.
use Prim.Native.Nat.{ℕ}
use mathlib.Core.Path.{◌≡◌, refl, ◌∙◌}
use mathlib.Core.Bool.{Bool, true, false, cond, true≢false}
use mathlib.Core.List.{List}
use Rattle.std.specs.Prelude.{Option}
use Rattle.flags.specs.Table.{FlagTable}
use Rattle.digits.specs.Digits.{all_blank, is_plain, plain_size, has_minus, is_signed, signed_figure, trimmed_by, trimmed, is_number, figure_of, size_reading}
use Rattle.text_rules.specs.declared.Use.{Use}
use Rattle.text_rules.specs.declared.Use.TheVariants.{Always, ByFlag, Text}
use Rattle.text_rules.specs.declared.Column.{Column}
use Rattle.text_rules.specs.Columns.{Content, number_cell, blank_cell, is_text, content_by, used_by, number_form, is_cell, cell_of}
use Rattle.text_columns.specs.Read.{right_form, number_size, cell_size}

-- `read_cell`, where the column is not used.

pub cell_blank : (digits : Option ℕ) (decimals : ℕ) (s : List ℕ) {used : Bool} → used ≡ false
    → {r : Option ℕ} → r ≡ size_reading (all_blank s) 0 → r ≡ cell_size used digits decimals s
unfolding cell_size
cell_blank digits decimals s u e = e ∙ rw u

-- A column that holds no text has its number where it is used, and else blanks.

pub content_used : (flags : FlagTable) (flag : ℕ) (u : Use) → is_text u ≡ false
    → content_by flags flag u ≡ cond (used_by flags flag u) number_cell blank_cell
unfolding content_by used_by is_text
content_used flags flag Always h = refl
content_used flags flag (ByFlag column) h = refl
content_used flags flag Text h = absurd (true≢false h)

-- a column has the form of a number right in it
number_form_lem : (c : Column) (s : List ℕ) → number_size (right_form c.digits c.decimals) s ≡ number_size (number_form c) s
unfolding number_size right_form number_form is_number figure_of trimmed trimmed_by is_signed signed_figure has_minus is_plain plain_size
number_form_lem c s = refl

cell_size_lem : (c : Column) (s : List ℕ) (used : Bool) {x : Content} → x ≡ cond used number_cell blank_cell
    → cell_size used c.digits c.decimals s ≡ size_reading (is_cell x c s) (cell_of x c s)
unfolding cell_size is_cell cell_of number_size
cell_size_lem c s true e = rw e (number_form_lem c s)
cell_size_lem c s false e = rw e

-- what the definitions read of a column in a line with that flag
unfoldable pub cell_reading : FlagTable → ℕ → Column → List ℕ → Option ℕ
cell_reading flags flag c s = size_reading (is_cell (content_by flags flag c.used) c s) (cell_of (content_by flags flag c.used) c s)

-- the same by the column's parts
pub column_cell : (flags : FlagTable) (flag : ℕ) (c : Column) (s : List ℕ) → is_text c.used ≡ false
    → cell_size (used_by flags flag c.used) c.digits c.decimals s ≡ cell_reading flags flag c s
unfolding cell_reading
column_cell flags flag c s h = cell_size_lem c s (used_by flags flag c.used) (content_used flags flag c.used h)
