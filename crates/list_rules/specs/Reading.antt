-- "Reading" in the Shanghai form, under a flag table: the tests 21, 18, 19, 20, 2, 3 and 16 in this order, and what is handed back.
use Rattle.std.specs.Prelude.{ℕ, ◌+◌, ◌*◌, Bool, cond, not, ◌&&◌, List, [], ◌∷◌, ◌++◌, leb, ltb, eqb, length, take, drop}
use Rattle.sequences.specs.Every.{inside}
use Rattle.sequences.specs.Checks.{Check, check, Reply, answered, passes}
use Rattle.flags.specs.Table.{FlagTable}
use Rattle.fund.specs.Components.{component_fault}
use Rattle.layout.specs.Places.{component_width, most_components}
use Rattle.layout.specs.declared.Component.{Component}
use Rattle.layout.specs.Components.{component_at, places_of}
use Rattle.rules.specs.Opening.{table_checks}
use Rattle.rules.specs.Replies.{if_accepted}
use Rattle.text_rules.specs.Columns.{column_start, line_pitch, part_of, cell_read}
use Rattle.text_rules.specs.Head.{is_opening, letters_start}
use Rattle.text_rules.specs.Reading.{line_stands, letters_read, body_start, row_count, row_of, shape_checks, field_checks, figure_read, run_read}
use Rattle.list_rules.specs.declared.ListFields.{ListFields}
use Rattle.list_rules.specs.declared.TextPart.{TextPart}
use Rattle.list_rules.specs.Shanghai.{shanghai, shanghai_shape, shanghai_columns, shanghai_fields, name_width, creation_code_field}
use Rattle.list_rules.specs.Shanghai.{code_column, name_column, quantity_column, flag_column, premium_column, discount_column, amount_column}
use Rattle.list_rules.specs.Fields.{fields_from, fields_in_range, blank_fields}

-- ---- what the text says: the fields, and the numbers of its components
unfoldable pub fields_read : List ℕ → ListFields
fields_read text = fields_from (figure_read shanghai_fields text)

unfoldable pub components_run : FlagTable → List ℕ → List ℕ
components_run t text = run_read (shanghai t) text

-- the component of one line, by the columns' names
unfoldable pub line_component : FlagTable → List ℕ → Component
line_component t l =
    record {
      code = cell_read (shanghai t) l code_column;
      quantity = cell_read (shanghai t) l quantity_column;
      flag = cell_read (shanghai t) l flag_column;
      premium = record { 0 = cell_read (shanghai t) l premium_column };
      discount = record { 0 = cell_read (shanghai t) l discount_column };
      amount = record { 0 = cell_read (shanghai t) l amount_column };
    }

-- 20, and then 2 and 3
unfoldable pub is_counted : ℕ → ℕ → Bool
is_counted recordnum rows = inside 1 most_components recordnum && eqb recordnum rows

unfoldable pub read_fault : FlagTable → List ℕ → ℕ
read_fault t text =
    component_fault t (fields_read text).fund.first_code (places_of (component_at (components_run t text)) (row_count shanghai_shape text))
    (row_count shanghai_shape text)

unfoldable pub range_checks : FlagTable → List ℕ → List Check
range_checks t text =
    check (not (is_counted (fields_read text).count (row_count shanghai_shape text))) 20 0
    ∷ check (not (leb 1 (figure_read shanghai_fields text creation_code_field).size && fields_in_range (fields_read text))) 2 0
    ∷ check (ltb (read_fault t text) (row_count shanghai_shape text)) 3 (read_fault t text)
    ∷ []

-- the tests of reading into a lent component run of so many numbers
unfoldable pub read_checks : FlagTable → List ℕ → ℕ → List Check
read_checks t text room =
    table_checks t
    ++ (shape_checks shanghai_shape text
    ++ (field_checks (shanghai t) text ++ (range_checks t text ++ (check (ltb room (component_width * row_count shanghai_shape text)) 16 0 ∷ []))))

unfoldable pub read_reply : FlagTable → List ℕ → ℕ → Reply
read_reply t text room = answered (read_checks t text room) (row_count shanghai_shape text)

-- ---- read: the fields, where the component lines start, and the lent run after. Of a refused text the code hands back neither fields nor
-- a place: here these are blank fields and 0, so that a row of vectors can say that it hands back none
unfoldable pub fields_handed : FlagTable → List ℕ → ℕ → ListFields
fields_handed t text room = if_accepted (read_reply t text room) (fields_read text) blank_fields

unfoldable pub first_handed : FlagTable → List ℕ → ℕ → ℕ
first_handed t text room = if_accepted (read_reply t text room) (body_start shanghai_shape text) 0

unfoldable pub run_after : FlagTable → List ℕ → List ℕ → List ℕ
run_after t text run =
    if_accepted (read_reply t text (length run)) (components_run t text ++ drop (component_width * row_count shanghai_shape text) run) run

-- ---- parts of the text, by place and length
abbrev pub part_in : List ℕ → TextPart → List ℕ
part_in text p = take p.length (drop p.place text)

-- the letters of the first line; an empty part where the line is another
unfoldable pub letters_place : List ℕ → TextPart
letters_place text = cond (line_stands is_opening text 0) (record { place = letters_start; length = length (letters_read text) }) (record { place = 0; length = 0 })

-- the name of component j, where the text has such a component line
unfoldable pub name_read : List ℕ → ℕ → List ℕ
name_read text j =
    cond (passes (shape_checks shanghai_shape text) && ltb j (row_count shanghai_shape text))
    (part_of shanghai_columns name_column (row_of shanghai_shape text j)) []

-- the name of the j-th component line behind a place, where the text has so many bytes
unfoldable pub name_place : List ℕ → ℕ → ℕ → TextPart
name_place text first j =
    cond (leb (first + j * line_pitch shanghai_columns + line_pitch shanghai_columns) (length text))
    (record { place = first + j * line_pitch shanghai_columns + column_start shanghai_columns name_column; length = name_width })
    (record { place = 0; length = 0 })

unfoldable pub name_from : List ℕ → ℕ → ℕ → List ℕ
name_from text first j = part_in text (name_place text first j)
