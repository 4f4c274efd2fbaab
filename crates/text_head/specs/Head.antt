-- The head as the code goes through it: a line that is passed, what a field says, and what is found.
use Rattle.std.specs.Prelude.{ℕ, suc, Bool, cond, List, ltb, length, Option, Result, Ok, Err}
use Rattle.sequences.specs.Below.{tabulate}
use Rattle.digits.specs.declared.Figure.{Figure}
use Rattle.digits.specs.Digits.{plain, figure_of, reading}
use Rattle.lines.specs.Lines.{next_at}
use Rattle.text_rules.specs.Tables.{Field}
use Rattle.text_rules.specs.Head.{head_lines, is_field}
use Rattle.text_rules.specs.Reading.{start_of, line_stands, wrong_line, field_start, figure_read, wrong_field}
use Rattle.text_rules.specs.Well.{most_fields}
use Rattle.text_head.specs.declared.WrongLine.{WrongLine}
use Rattle.text_head.specs.declared.WrongField.{WrongField}
use Rattle.text_head.specs.declared.HeadFields.{HeadFields}

-- what a field says
unfoldable pub field_reading : Field → List ℕ → Option Figure
field_reading f s = reading (is_field f s) (figure_of f.form s)

-- the place behind line k, which starts at a place, where it stands; the line and its place where it does not
unfoldable pub line_passed : (List ℕ → Bool) → List ℕ → ℕ → ℕ → Result ℕ WrongLine
line_passed test text k at = cond (line_stands test text at) (Ok (next_at text at)) (Err (record { line = k; place = at }))

-- the place behind the head, or its first wrong line and the place of that
unfoldable pub shape_found : List Field → List ℕ → Result ℕ WrongLine
shape_found fs text =
    cond (ltb (wrong_line fs text) (head_lines fs))
    (Err (record { line = wrong_line fs text; place = start_of text (wrong_line fs text) })) (Ok (start_of text (head_lines fs)))

-- the figures before the first wrong field, and 0 from there on
unfoldable pub figures_found : List Field → List ℕ → List Figure
figures_found fs text = tabulate (λ k. cond (ltb k (wrong_field fs text)) (figure_read fs text k) (plain 0)) most_fields

-- the figures of all fields and the place of TAGTAG, or the first wrong field, the place of its value and the figures before it
unfoldable pub fields_found : List Field → List ℕ → Result HeadFields WrongField
fields_found fs text =
    cond (ltb (wrong_field fs text) (length fs))
    (Err (record { field = wrong_field fs text; place = field_start fs text (wrong_field fs text); figures = figures_found fs text }))
    (Ok (record { place = start_of text (suc (length fs)); figures = figures_found fs text }))
