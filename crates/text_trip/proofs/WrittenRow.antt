-- A component line as it is written: its width, its bars and its columns, and reading it gives its numbers and its words.
use Rattle.std.proofs.lemmas.Grind.{common_steps}
use mathlib.Core.Path.{◌≡◌, sym, ap, ◌∙◌, subst}
use mathlib.Core.Bool.{true, false}
use mathlib.Core.List.{List, [], ◌∷◌, ◌++◌}
use Prim.Native.Nat.{ℕ, ◌+◌, ◌-◌, ◌<◌}
use native.Mathlib.Omega.{arith}
use lib.Dec.{eqb}
use lib.ListN.{length, get_or}
use borrow.Author.Tests.{eq-eqb}
use Rattle.sequences.proofs.Below.{all_true, first_end}
use Rattle.digits.specs.Digits.{plain, number_text}
use Rattle.digits.specs.Fits.{Fits}
use Rattle.lines.specs.Lines.{other_byte, all_bytes}
use Rattle.lines.proofs.Laws.{no_cr, all_append}
use Rattle.text_rules.specs.declared.Column.{Column}
use Rattle.text_rules.specs.Tables.{TextForm, column_at}
use Rattle.text_rules.specs.Columns.{column_width, column_start, line_width, holds_text, line_numbers, line_words, Content, number_cell, content_by, cell_text}
use Rattle.text_rules.specs.Columns.{is_row, part_of, flag_of, content_of, wrong_cell, column_fault}
use Rattle.text_rules.specs.Columns.{cell_read, numbers_read, words_read, cell_at, part_at, content_at, column_text, row_text}
use Rattle.text_rules.proofs.Well.{WellForm, column_well_lem}
use Rattle.text_trip.specs.Trips.{RowFits}
use Rattle.text_trip.proofs.Below.{join-same}
use Rattle.text_trip.proofs.Cells.{cell_same, word_same, part_long, numbers-join, words-join}
use Rattle.text_trip.proofs.Flag.{Holds, content_holds, one_digit, digit_written, flag_well_lem, flag_form, flag_content}
use Rattle.text_trip.proofs.WrittenLines.{parts-no_cr}
use Rattle.text_trip.proofs.WrittenColumns.{barred-length, column_there, bar_there, byte_there}
use Rattle.text_trip.proofs.WrittenCells.{cell_wide, cell_is, cell_says, cell_words, cell-no_cr}

-- what is to be shown of the line
pub record RowWritten (t : TextForm) (numbers words : List ℕ) : Type 0 where
  pub wide : length (row_text t numbers words) ≡ line_width t.columns
  pub clean : no_cr (row_text t numbers words) ≡ true
  pub stands : is_row t.columns (row_text t numbers words) ≡ true
  pub fault : column_fault t (row_text t numbers words) ≡ length t.columns
  pub numbers_read_lem : numbers_read t (row_text t numbers words) ≡ numbers
  pub words_read_lem : words_read t (row_text t numbers words) ≡ words

module _ (t : TextForm) (well : WellForm t) (numbers words : List ℕ) (fits : RowFits t numbers words)
    (long : length words ≡ line_words t.columns) where
  -- what column k has, its number and its words
  abbrev content : ℕ → Content
  content k = content_at t numbers k

  abbrev column : ℕ → Column
  column k = column_at t.columns k

  abbrev cell : ℕ → ℕ
  cell k = cell_at t.columns numbers k

  abbrev part : ℕ → List ℕ
  part k = part_at t.columns words k

  abbrev row : List ℕ
  row = row_text t numbers words

  holds : (k : ℕ) → Holds (content k) (holds_text t.columns k)
  unfolding content_at holds_text
  holds k = content_holds t.flags (cell t.flag_at) (column k).used

  -- a column is as wide as it is to be
  column_wide : (k : ℕ) → k < length t.columns → length (column_text t numbers words k) ≡ column_width t.columns k
  unfolding column_text column_width
  column_wide k h =
      cell_wide (column k) (cell k) (part k) (content k) (holds_text t.columns k) (column_well_lem t.columns well.columns k h)
      (holds k) (part_long t.columns words long k h) (fits k h)

  -- the line has its width and its bars
  pub row-length : length row ≡ line_width t.columns
  unfolding row_text line_width column_start
  row-length = barred-length (column_text t numbers words) (column_width t.columns) (length t.columns) column_wide

  row_bars : (k : ℕ) → k < length t.columns → eqb (get_or row (column_start t.columns k + column_width t.columns k) 0) 124 ≡ true
  unfolding row_text column_start
  row_bars k h = eq-eqb _ _ (bar_there (column_text t numbers words) (column_width t.columns) (length t.columns) column_wide k h)

  row_is : is_row t.columns row ≡ true
  unfolding is_row
  row_is = grind (arith, common_steps, row-length, all_true, row_bars)

  -- its columns are the ones written
  part_is : (k : ℕ) → k < length t.columns → part_of t.columns k row ≡ column_text t numbers words k
  unfolding row_text part_of column_start
  part_is k h = column_there (column_text t numbers words) (column_width t.columns) (length t.columns) column_wide k h

  -- the flag fits its column, and its digit is the flag
  number_there : content t.flag_at ≡ number_cell
  unfolding content_at
  number_there = flag_content t well (cell t.flag_at)

  flag_fits : Fits one_digit (plain (cell t.flag_at))
  flag_fits = grind (arith, common_steps, flag_form, number_there, flag_well_lem)

  flag_text : column_text t numbers words t.flag_at ≡ number_text one_digit (plain (cell t.flag_at))
  unfolding column_text cell_text
  flag_text = grind (arith, common_steps, number_there, flag_form)

  row_flag : flag_of t row ≡ cell t.flag_at
  unfolding flag_of part_of column_width
  row_flag =
      ap (λ (b : ℕ). b - 48)
      (sym (byte_there row (column_start t.columns t.flag_at) (column_width t.columns t.flag_at) (omega (arith, (flag_well_lem t well).width)))
      ∙ ap (λ (s : List ℕ). get_or s 0 0) (part_is t.flag_at (flag_well_lem t well).there ∙ flag_text))
      ∙ digit_written (cell t.flag_at) flag_fits

  content_is : (k : ℕ) → content_of t row k ≡ content k
  unfolding content_of content_at
  content_is k = ap (λ (f : ℕ). content_by t.flags f (column k).used) row_flag

  -- each column is as it is to be written
  row_fault : column_fault t row ≡ length t.columns
  unfolding column_fault wrong_cell column_text
  row_fault = grind (arith, common_steps, first_end, content_is, part_is, cell_is)

  -- the number of a column is the one written, and so are its words
  cell_read_lem : (k : ℕ) → k < length t.columns → holds_text t.columns k ≡ false → cell_read t row k ≡ cell k
  unfolding cell_read column_text
  cell_read_lem k h e = grind (arith, common_steps, content_is, part_is, cell_says, Holds, holds)

  part_read : (k : ℕ) → k < length t.columns → holds_text t.columns k ≡ true → part_of t.columns k row ≡ part k
  unfolding column_text
  part_read k h e = part_is k h ∙ cell_words (column k) (cell k) (part k) (content k) (subst (Holds (content k)) e (holds k))

  -- so the line says the numbers and the words
  row_numbers : length numbers ≡ line_numbers t.columns → numbers_read t row ≡ numbers
  unfolding numbers_read
  row_numbers full =
      join-same _ _ (length t.columns) (λ k h. cell_same (holds_text t.columns k) _ _ (cell_read_lem k h))
      ∙ numbers-join t.columns numbers full

  row_words : words_read t row ≡ words
  unfolding words_read
  row_words =
      join-same _ _ (length t.columns) (λ k h. word_same (holds_text t.columns k) _ _ (part_read k h))
      ∙ words-join t.columns words long

  -- no byte of it is 0D
  column-no_cr : (k : ℕ) → k < length t.columns → no_cr (column_text t numbers words k ++ 124 ∷ []) ≡ true
  unfolding column_text all_bytes other_byte
  column-no_cr k h = grind (arith, common_steps, all_append, cell-no_cr)

  row-no_cr : no_cr row ≡ true
  unfolding row_text
  row-no_cr = parts-no_cr (λ k. column_text t numbers words k ++ 124 ∷ []) (length t.columns) column-no_cr

  pub row_written : length numbers ≡ line_numbers t.columns → RowWritten t numbers words
  row_written full =
      record {
        wide = row-length;
        clean = row-no_cr;
        stands = row_is;
        fault = row_fault;
        numbers_read_lem = row_numbers full;
        words_read_lem = row_words;
      }
