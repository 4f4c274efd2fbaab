-- The names of a text that is read, by their places: found from where its component lines start they are those that it says, and
-- past the last there is none.
use mathlib.Core.Path.{◌≡◌, sym, ap, ◌∙◌}
use mathlib.Core.Bool.{true, and-false}
use mathlib.Core.List.{List, []}
use Prim.Native.Nat.{ℕ, suc, ◌+◌, ◌-◌, ◌*◌, ◌≤◌, ◌<◌}
use native.Mathlib.Nat.{suc-mul, le_of_lt}
use native.Mathlib.Decide.{dec_lt}
use native.Mathlib.Omega.{arith}
use lib.ListN.{length, take, drop, length-append, length-drop}
use lib.Seq.{drop-drop}
use borrow.Author.Tests.{le-leb, lt-leb, le-ltb}
use Rattle.sequences.specs.Below.{sum_below, join_below}
use Rattle.sequences.specs.Checks.{passes}
use Rattle.sequences.proofs.Stretch.{part_within, within}
use Rattle.flags.specs.Table.{FlagTable}
use Rattle.lines.specs.Lines.{line_text}
use Rattle.lines.proofs.Laws.{length-line_text}
use Rattle.text_rules.specs.Tables.{column_at}
use Rattle.text_rules.specs.Columns.{column_width, column_start, line_width, line_pitch, part_of}
use Rattle.text_rules.specs.Head.{end_word}
use Rattle.text_rules.specs.Reading.{body_start, row_start, row_count, row_of, shape_checks}
use Rattle.text_rules.proofs.Tables.{end_line}
use Rattle.text_trip.proofs.Below.{length_below}
use Rattle.text_trip.proofs.ReadTests.{Reads, reads}
use Rattle.text_trip.proofs.ReadRows.{row_wide, row_stands, rest_read}
use Rattle.list_rules.specs.Shanghai.{shanghai, shanghai_shape, shanghai_columns, name_column, name_width}
use Rattle.list_rules.specs.Reading.{first_handed, name_read, name_place, name_from}
use Rattle.list_rules.proofs.Shape.{checks_same}
use Rattle.list_trip.specs.Trips.{NamesHanded}
use Rattle.list_trip.proofs.Form.{name_width_lem}
use Rattle.list_trip.proofs.Names.{name_read_lem}
use Rattle.list_trip.proofs.ReadTests.{reads as list-reads}

-- the name's column is one of the line's
name_there : name_column < length shanghai_columns
unfolding shanghai_columns
name_there = omega arith

-- the last line is shorter than a component line, and not empty
end_some : 0 < length (line_text end_word)
end_some = omega (arith, length-line_text end_word)

end_short : length (line_text end_word) < line_pitch shanghai_columns
unfolding line_text line_pitch line_width column_start column_width column_at sum_below shanghai_columns
end_short = omega arith

-- A place by whether the text has as many bytes as a component line there.
module _ (text : List ℕ) (first j : ℕ) where
  name_part_lem : first + j * line_pitch shanghai_columns + line_pitch shanghai_columns ≤ length text
      → name_from text first j ≡ take name_width (drop (first + j * line_pitch shanghai_columns + column_start shanghai_columns name_column) text)
  unfolding name_from name_place
  name_part_lem h = rw (le-leb (first + j * line_pitch shanghai_columns + line_pitch shanghai_columns) (length text) h)

  name_none : length text < first + j * line_pitch shanghai_columns + line_pitch shanghai_columns → name_from text first j ≡ []
  unfolding name_from name_place
  name_none h = rw (lt-leb (first + j * line_pitch shanghai_columns + line_pitch shanghai_columns) (length text) h)

-- past the last the text says no name
name_past : (text : List ℕ) (j : ℕ) → row_count shanghai_shape text ≤ j → name_read text j ≡ []
unfolding name_read
name_past text j h = rw (le-ltb j (row_count shanghai_shape text) h, and-false)

-- the name's column of the j-th, in the text
name_at_lem : (text : List ℕ) (j : ℕ) → part_of shanghai_columns name_column (row_of shanghai_shape text j)
    ≡ take name_width (drop (body_start shanghai_shape text + j * line_pitch shanghai_columns + column_start shanghai_columns name_column) text)
unfolding part_of row_of row_start
name_at_lem text j =
    let start = body_start shanghai_shape text + j * line_pitch shanghai_columns in
    part_within (column_start shanghai_columns name_column) (column_width shanghai_columns name_column) (line_width shanghai_columns) (drop start text)
    (le_of_lt (end_line shanghai_columns name_column name_there))
    ∙ ap (λ (w : ℕ). take w (drop (column_start shanghai_columns name_column) (drop start text))) name_width_lem
    ∙ ap (take name_width) (drop-drop (column_start shanghai_columns name_column) start text)

-- the name of a component line that fits the text, found from where those lines start
pub name_found : (text : List ℕ) → passes (shape_checks shanghai_shape text) ≡ true → (j : ℕ) → j < row_count shanghai_shape text
    → body_start shanghai_shape text + j * line_pitch shanghai_columns + line_pitch shanghai_columns ≤ length text
    → name_from text (body_start shanghai_shape text) j ≡ name_read text j
name_found text shape j h room = name_part_lem text (body_start shanghai_shape text) j room ∙ sym (name_at_lem text j) ∙ sym (name_read_lem text shape j h)

module _ (t : FlagTable) (text : List ℕ) (r : Reads (shanghai t) text) where
  -- the component lines and the last line, to the end of the text
  rows_long : length (join_below (λ j. line_text (row_of shanghai_shape text j)) (row_count shanghai_shape text)) ≡ row_count shanghai_shape text * line_pitch shanghai_columns
  unfolding line_pitch row_count row_of row_start body_start
  rows_long =
      length_below (line_pitch shanghai_columns) (λ j. line_text (row_of shanghai_shape text j)) (row_count shanghai_shape text)
      (λ j h. length-line_text _ ∙ ap (λ (n : ℕ). n + 2) (row_wide shanghai_columns _ (row_stands (shanghai t) text r j h)))

  text_long : length text ≡ body_start shanghai_shape text + (row_count shanghai_shape text * line_pitch shanghai_columns + length (line_text end_word))
  unfolding row_count row_of row_start body_start
  text_long =
      let rows = join_below (λ j. line_text (row_of shanghai_shape text j)) (row_count shanghai_shape text) in
      let rest : length text - body_start shanghai_shape text ≡ row_count shanghai_shape text * line_pitch shanghai_columns + length (line_text end_word) =
      sym (length-drop (body_start shanghai_shape text) text)
      ∙ ap length (rest_read (shanghai t) text r)
      ∙ length-append rows (line_text end_word)
      ∙ ap (λ (n : ℕ). n + length (line_text end_word)) rows_long
      in omega (arith, rest, end_some)

  -- a component line fits the text, and past the last there is no room for one
  row_there : (j : ℕ) → j < row_count shanghai_shape text → body_start shanghai_shape text + j * line_pitch shanghai_columns + line_pitch shanghai_columns ≤ length text
  row_there j h = omega (arith, text_long, within (line_pitch shanghai_columns) j (row_count shanghai_shape text) h)

  row_past : (j : ℕ) → row_count shanghai_shape text ≤ j → length text < body_start shanghai_shape text + j * line_pitch shanghai_columns + line_pitch shanghai_columns
  row_past j h =
      omega (
        arith,
        text_long,
        end_short,
        suc-mul j (line_pitch shanghai_columns),
        within (line_pitch shanghai_columns) (row_count shanghai_shape text) (suc j) (omega arith),
      )

  -- by whether the text has such a line
  name_cases : passes (shape_checks shanghai_shape text) ≡ true → (j : ℕ) → Dec (j < row_count shanghai_shape text)
      → name_from text (body_start shanghai_shape text) j ≡ name_read text j
  name_cases shape j (yes h) = name_found text shape j h (row_there j h)
  name_cases shape j (no h) =
      name_none text (body_start shanghai_shape text) j (row_past j (omega arith))
      ∙ sym (name_past text j (omega arith))

pub names_handed : NamesHanded
unfolding first_handed
names_handed t text room j e =
    let r = list-reads t text room e in
    rw e (name_cases t text (reads (shanghai t) text (ap passes (checks_same t text) ∙ r.shape) r.fields) r.shape j (dec_lt j (row_count shanghai_shape text)))
