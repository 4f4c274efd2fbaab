-- A list that passes, as a sheet: it fits the Shanghai form, and how long its text is.
use mathlib.Core.Path.{◌≡◌, sym, ap, ◌∙◌, subst⁻¹}
use mathlib.Core.Bool.{true}
use mathlib.Core.List.{List}
use Prim.Native.Nat.{ℕ, ◌+◌, ◌*◌, ◌<◌}
use native.Mathlib.Omega.{arith}
use lib.ListN.{length, length-append}
use Rattle.sequences.specs.Checks.{passes}
use Rattle.sequences.specs.Stretch.{stretch_of}
use Rattle.flags.specs.Table.{FlagTable}
use Rattle.layout.specs.Components.{component_at, component_numbers}
use Rattle.lines.specs.Lines.{line_text, name_byte, all_bytes}
use Rattle.text_rules.specs.Head.{head_lines, end_word}
use Rattle.text_rules.specs.Columns.{line_width, line_pitch, part_at, row_text}
use Rattle.text_rules.specs.Writing.{numbers_at, words_at, head_text, rows_text, sheet_text}
use Rattle.text_rules.proofs.Well.{form_facts}
use Rattle.text_trip.specs.Trips.{RowFits, SheetFits}
use Rattle.text_trip.proofs.WrittenRow.{row-length}
use Rattle.text_trip.proofs.WrittenRows.{rows-length}
use Rattle.list_rules.specs.Shanghai.{shanghai, shanghai_columns, shanghai_fields, name_column, name_width}
use Rattle.list_rules.specs.Fields.{figure_at}
use Rattle.list_rules.specs.Writing.{Listing, name_at, sheet_of, text_of, list_checks}
use Rattle.list_rules.proofs.Lent.{shanghai_well}
use Rattle.list_trip.proofs.Form.{line_numbers_lem, line_words_lem, part_name}
use Rattle.list_trip.proofs.WrittenPassing.{Passing, passing, component_fine, name_fine, name-length}
use Rattle.list_trip.proofs.WrittenForms.{run_stretch, component_fits}
use Rattle.list_trip.proofs.WrittenFields.{figure_fits, figure_kind}

-- the words of a line are its name
pub words_at_lem : (t : FlagTable) (names : List ℕ) (j : ℕ) → words_at (shanghai t) names j ≡ name_at names j
unfolding words_at name_at
words_at_lem t names j = ap (λ (w : ℕ). stretch_of w names j) line_words_lem

module _ (t : FlagTable) (l : Listing) (p : Passing t l) where
  -- the numbers of a line are those of its component
  numbers_at_lem : (j : ℕ) → j < l.fields.count → numbers_at (shanghai t) l.run j ≡ component_numbers (component_at l.run j)
  unfolding numbers_at
  numbers_at_lem j h =
      ap (λ (w : ℕ). stretch_of w l.run j) line_numbers_lem
      ∙ run_stretch l.run l.fields.count j p.run_length h

  words-length : (j : ℕ) → j < l.fields.count → length (words_at (shanghai t) l.names j) ≡ name_width
  words-length j h = ap length (words_at_lem t l.names j) ∙ name-length t l p j h

  words_fine : (j : ℕ) → j < l.fields.count → all_bytes name_byte (part_at shanghai_columns (words_at (shanghai t) l.names j) name_column) ≡ true
  words_fine j h =
      ap (all_bytes name_byte) (part_name (words_at (shanghai t) l.names j) (words-length j h) ∙ words_at_lem t l.names j)
      ∙ name_fine t l p j h

  -- both fit the columns
  row_fits : (j : ℕ) → j < l.fields.count → RowFits (shanghai t) (numbers_at (shanghai t) l.run j) (words_at (shanghai t) l.names j)
  row_fits j h =
      subst⁻¹ (λ (s : List ℕ). RowFits (shanghai t) s (words_at (shanghai t) l.names j)) (numbers_at_lem j h)
      (component_fits t _ (component_at l.run j) (component_fine t l p j h) (words_at (shanghai t) l.names j) (words_fine j h))

  row_wide : (j : ℕ) → j < l.fields.count
      → length (row_text (shanghai t) (numbers_at (shanghai t) l.run j) (words_at (shanghai t) l.names j)) ≡ line_width shanghai_columns
  row_wide j h =
      row-length (shanghai t) (form_facts (shanghai t) (shanghai_well t)) (numbers_at (shanghai t) l.run j) (words_at (shanghai t) l.names j) (row_fits j h)
      (words-length j h ∙ sym line_words_lem)

  lines_long : length (rows_text (shanghai t) l.run l.names l.fields.count) ≡ l.fields.count * line_pitch shanghai_columns
  lines_long = rows-length (shanghai t) l.run l.names l.fields.count row_wide

module _ (t : FlagTable) (l : Listing) (e : passes (list_checks t l) ≡ true) where
  pub rows_fit_lem : (j : ℕ) → j < l.fields.count → RowFits (shanghai t) (numbers_at (shanghai t) l.run j) (words_at (shanghai t) l.names j)
  rows_fit_lem = row_fits t l (passing t l e)

  pub sheet_fits : SheetFits (shanghai t) (sheet_of l)
  unfolding sheet_of
  sheet_fits =
      let p = passing t l e in
      record {
        letters = p.letters;
        figures = figure_fits l.fields p.ranges p.few;
        kinds = figure_kind l.fields p.ranges p.few;
        run_length = rw line_numbers_lem (omega (arith, p.run_length));
        texts-length = rw line_words_lem (omega (arith, p.names-length));
        rows = rows_fit_lem;
      }

  -- the head, the component lines and the last line
  pub text-length : length (text_of t l)
      ≡ length (head_text shanghai_fields l.letters (figure_at l.fields) (head_lines shanghai_fields))
      + (l.fields.count * line_pitch shanghai_columns + length (line_text end_word))
  unfolding text_of sheet_of sheet_text
  text-length = rw (length-append, length-append, lines_long t l (passing t l e))
