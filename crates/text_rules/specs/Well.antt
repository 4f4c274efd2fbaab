-- Well-made tables: what the theorems on a form and its code ask of them. A test that is computed once for each form.
use Rattle.std.specs.Prelude.{ℕ, ◌+◌, Bool, true, false, ◌&&◌, ◌||◌, List, [], ◌∷◌, leb, ltb, eqb, length, Option, Some, None, is_none, unwrap_or}
use Rattle.sequences.specs.Below.{all_below}
use Rattle.sequences.specs.Every.{every}
use Rattle.lines.specs.Lines.{other_byte, all_bytes}
use Rattle.text_rules.specs.declared.Use.{Use}
use Rattle.text_rules.specs.declared.Use.TheVariants.{Always, ByFlag, Text}
use Rattle.text_rules.specs.declared.Column.{Column}
use Rattle.text_rules.specs.Tables.{Field, TextForm, column_at, field_at}
use Rattle.text_rules.specs.Columns.{line_width}

-- the widest column, and the longest line
abbrev pub most_width : ℕ
most_width = 18

abbrev pub most_line : ℕ
most_line = 1_000

-- the most decimals, digits and fields
abbrev pub most_decimals : ℕ
most_decimals = 9

abbrev pub most_digits : ℕ
most_digits = 20

abbrev pub most_fields : ℕ
most_fields = 24

-- a number of so many digits fills a column of that width, with no decimals
unfoldable pub digits_fill : Option ℕ → ℕ → ℕ → Bool
digits_fill None width decimals = true
digits_fill (Some digits) width decimals = eqb digits width && eqb decimals 0

-- a column is not empty and not too wide; a number of so many digits fills it, and one with decimals has room for its point
unfoldable pub column_well : Column → Bool
column_well c =
    every
    (ltb 0 c.width
    ∷ leb c.width most_width
    ∷ digits_fill c.digits c.width c.decimals
    ∷ (eqb c.decimals 0 || (leb c.decimals most_decimals && ltb (c.decimals + 1) c.width))
    ∷ [])

unfoldable pub columns_well : List Column → Bool
columns_well cs = all_below (λ k. column_well (column_at cs k)) (length cs) && leb (line_width cs) most_line

-- the flag is one digit, in every line
unfoldable pub is_always : Use → Bool
is_always Always = true
is_always (ByFlag column) = false
is_always Text = false

unfoldable pub flag_well : List Column → ℕ → Bool
flag_well cs k =
    every
    (ltb k (length cs)
    ∷ eqb (column_at cs k).width 1
    ∷ eqb (unwrap_or (column_at cs k).digits 0) 1
    ∷ is_always (column_at cs k).used
    ∷ [])

-- a field's number is as long as it is, with few digits and decimals, and no byte of its name is 0D
unfoldable pub field_well : Field → Bool
field_well f =
    every
    (is_none f.form.width
    ∷ leb (unwrap_or f.form.digits 0) most_digits
    ∷ leb f.form.decimals most_decimals
    ∷ leb (length f.name) most_line
    ∷ all_bytes other_byte f.name
    ∷ [])

unfoldable pub fields_well : List Field → Bool
fields_well fs = all_below (λ k. field_well (field_at fs k)) (length fs) && leb (length fs) most_fields

unfoldable pub form_well : TextForm → Bool
form_well t = every (fields_well t.fields ∷ columns_well t.columns ∷ flag_well t.columns t.flag_at ∷ [])
