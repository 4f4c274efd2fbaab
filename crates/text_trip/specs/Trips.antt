-- Both round trips of a text, in any well-made form: a sheet that fits is written and reads back, and a text that passes 18 and
-- 19 is written again but for the case of the names of its fields.
use Rattle.std.specs.Prelude.{ℕ, ◌-◌, ◌*◌, ◌<◌, ◌≡◌, true, cond, List, ◌++◌, length, drop}
use Rattle.sequences.specs.Below.{join_below}
use Rattle.sequences.specs.Every.{inside}
use Rattle.sequences.specs.Checks.{passes}
use Rattle.digits.specs.Digits.{plain, cap}
use Rattle.digits.specs.Fits.{Fits}
use Rattle.lines.specs.Lines.{line_text, name_byte, all_bytes}
use Rattle.text_rules.specs.declared.Column.{Column}
use Rattle.text_rules.specs.Tables.{Field, TextForm, column_at, field_at}
use Rattle.text_rules.specs.Columns.{line_numbers, line_words, Content, words_cell, number_cell, blank_cell, holds_text, number_form, cell_at, part_at, content_at}
use Rattle.text_rules.specs.Head.{head_lines, field_name, is_kind, is_letters}
use Rattle.text_rules.specs.Reading.{start_of, line_of, body_start, row_count, shape_checks, field_checks, figure_read, letters_read, run_read, texts_read}
use Rattle.text_rules.specs.Writing.{Sheet, numbers_at, words_at, sheet_text}
use Rattle.text_rules.specs.Well.{form_well}

-- what a column is to be written from fits it: words of its kind, a number that it has room for, or nothing
abbrev pub CellFits : Content → Column → ℕ → List ℕ → Type 0
CellFits words_cell c n s = all_bytes name_byte s ≡ true
CellFits number_cell c n s = Fits (number_form c) (plain n)
CellFits blank_cell c n s = n ≡ 0

-- the numbers and the words of a line fit its columns
abbrev pub RowFits : TextForm → List ℕ → List ℕ → Type 0
RowFits t numbers words =
    (k : ℕ) → k < length t.columns
    → CellFits (content_at t numbers k) (column_at t.columns k) (cell_at t.columns numbers k) (part_at t.columns words k)

-- a sheet fits a form
pub record SheetFits (t : TextForm) (s : Sheet) : Type 0 where
  pub letters : is_letters s.letters ≡ true
  pub figures : (k : ℕ) → k < length t.fields → Fits (field_at t.fields k).form (s.figure k)
  pub kinds : (k : ℕ) → k < length t.fields → is_kind (field_at t.fields k).kind (s.figure k).size ≡ true
  pub run_length : length s.run ≡ s.count * line_numbers t.columns
  pub texts-length : length s.texts ≡ s.count * line_words t.columns
  pub rows : (j : ℕ) → j < s.count → RowFits t (numbers_at t s.run j) (words_at t s.texts j)

-- its text passes 18 and 19, and says the sheet
pub record ReadsBack (t : TextForm) (s : Sheet) : Type 0 where
  pub shape : passes (shape_checks t (sheet_text t s)) ≡ true
  pub fields : passes (field_checks t (sheet_text t s)) ≡ true
  pub letters : letters_read (sheet_text t s) ≡ s.letters
  pub figures : (k : ℕ) → k < length t.fields → figure_read t.fields (sheet_text t s) k ≡ s.figure k
  pub count : row_count t (sheet_text t s) ≡ s.count
  pub run : run_read t (sheet_text t s) ≡ s.run
  pub texts : texts_read t (sheet_text t s) ≡ s.texts

-- what a text says
unfoldable pub sheet_read : TextForm → List ℕ → Sheet
sheet_read t text =
    record {
      letters = letters_read text;
      figure = figure_read t.fields text;
      count = row_count t text;
      run = run_read t text;
      texts = texts_read t text;
    }

-- line k of a text's head, with the name of its field as it is listed
unfoldable pub renamed_line : List Field → List ℕ → ℕ → List ℕ
renamed_line fs text k =
    cond (inside 1 (length fs) k)
    (field_name fs (k - 1) ++ drop (length (field_name fs (k - 1))) (line_of text (start_of text k)))
    (line_of text (start_of text k))

-- a text with the names of its fields as they are listed
unfoldable pub renamed : TextForm → List ℕ → List ℕ
renamed t text =
    join_below (λ k. line_text (renamed_line t.fields text k)) (head_lines t.fields) ++ drop (body_start t text) text

-- what a text that passes 18 and 19 says fits but for the ranges of its figures, and is written as the text was
pub record WrittenAgain (t : TextForm) (text : List ℕ) : Type 0 where
  pub letters : is_letters (letters_read text) ≡ true
  pub run_length : length (run_read t text) ≡ row_count t text * line_numbers t.columns
  pub texts-length : length (texts_read t text) ≡ row_count t text * line_words t.columns
  pub words : (j k : ℕ) → j < row_count t text → k < length t.columns → holds_text t.columns k ≡ true
      → all_bytes name_byte (part_at t.columns (words_at t (texts_read t text) j) k) ≡ true
  pub same_length : length (renamed t text) ≡ length text
  pub again : ((k : ℕ) → k < length t.fields → (figure_read t.fields text k).size < cap)
      → sheet_text t (sheet_read t text) ≡ renamed t text

-- the two theorems
abbrev pub WrittenReads : Type 0
WrittenReads = (t : TextForm) (s : Sheet) → form_well t ≡ true → SheetFits t s → ReadsBack t s

abbrev pub ReadWrites : Type 0
ReadWrites =
    (t : TextForm) (text : List ℕ) → form_well t ≡ true → passes (shape_checks t text) ≡ true → passes (field_checks t text) ≡ true
    → WrittenAgain t text
