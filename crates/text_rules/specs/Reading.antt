-- Reading a text in a form: where its lines stand, the tests 18 and 19 with their places, and what it says.
use Rattle.std.specs.Prelude.{ℕ, zero, suc, ◌+◌, ◌*◌, ◌/◌, Bool, cond, not, ◌&&◌, List, [], ◌∷◌, ltb, length, take, drop}
use Rattle.sequences.specs.Below.{first_below, join_below}
use Rattle.sequences.specs.Checks.{Check, check}
use Rattle.digits.specs.declared.Figure.{Figure}
use Rattle.digits.specs.Digits.{figure_of}
use Rattle.lines.specs.Lines.{ended, first_line, next_at, same}
use Rattle.text_rules.specs.declared.Column.{Column}
use Rattle.text_rules.specs.Tables.{Field, TextForm, field_at}
use Rattle.text_rules.specs.Head.{head_lines, field_name, is_field, is_head_line, letters_of, is_opening, end_word}
use Rattle.text_rules.specs.Columns.{column_start, line_width, line_pitch, is_row, column_fault, numbers_read, words_read}

-- ---- lines: where line k of the text starts, and whether it has its end and is the line to stand there
unfoldable pub start_of : List ℕ → ℕ → ℕ
start_of text zero = 0
start_of text (suc k) = next_at text (start_of text k)

unfoldable pub line_of : List ℕ → ℕ → List ℕ
line_of text at = first_line (drop at text)

unfoldable pub line_stands : (List ℕ → Bool) → List ℕ → ℕ → Bool
line_stands test text at = ended (drop at text) && test (line_of text at)

-- the first line of the head at fault, the count of its lines where there is none
unfoldable pub wrong_line : List Field → List ℕ → ℕ
wrong_line fs text = first_below (λ k. not (line_stands (is_head_line fs k) text (start_of text k))) (head_lines fs)

-- ---- component lines: where the first and the j-th start, and how many stand before the first line that is none
unfoldable pub body_start : TextForm → List ℕ → ℕ
body_start t text = start_of text (head_lines t.fields)

unfoldable pub row_start : TextForm → List ℕ → ℕ → ℕ
row_start t text j = body_start t text + j * line_pitch t.columns

unfoldable pub rows_from : List Column → List ℕ → ℕ → ℕ
rows_from cs text start =
    first_below (λ j. not (line_stands (is_row cs) text (start + j * line_pitch cs))) (length text / line_pitch cs + 1)

unfoldable pub row_count : TextForm → List ℕ → ℕ
row_count t text = rows_from t.columns text (body_start t text)

-- behind them ENDENDEND, and nothing more
unfoldable pub end_start : TextForm → List ℕ → ℕ
end_start t text = row_start t text (row_count t text)

-- 18: name, order, bars, width and end of every line
unfoldable pub shape_checks : TextForm → List ℕ → List Check
shape_checks t text =
    check (ltb (wrong_line t.fields text) (head_lines t.fields)) 18 (start_of text (wrong_line t.fields text))
    ∷ check (not (line_stands (λ l. same l end_word) text (end_start t text))) 18 (end_start t text)
    ∷ check (ltb (next_at text (end_start t text)) (length text)) 18 (next_at text (end_start t text))
    ∷ []

-- ---- fields: the word of field k, which stands behind its name and "=", and its figure
unfoldable pub field_start : List Field → List ℕ → ℕ → ℕ
field_start fs text k = start_of text (suc k) + (length (field_name fs k) + 1)

unfoldable pub word_of : List Field → List ℕ → ℕ → List ℕ
word_of fs text k = drop (length (field_name fs k) + 1) (line_of text (start_of text (suc k)))

unfoldable pub figure_read : List Field → List ℕ → ℕ → Figure
figure_read fs text k = figure_of (field_at fs k).form (word_of fs text k)

-- the first field of the head at fault, their count where there is none
unfoldable pub wrong_field : List Field → List ℕ → ℕ
wrong_field fs text = first_below (λ k. not (is_field (field_at fs k) (word_of fs text k))) (length fs)

-- ---- the j-th component line
unfoldable pub row_of : TextForm → List ℕ → ℕ → List ℕ
row_of t text j = take (line_width t.columns) (drop (row_start t text j) text)

-- the first component line with a column at fault, their count where there is none
unfoldable pub wrong_row : TextForm → List ℕ → ℕ
wrong_row t text = first_below (λ j. ltb (column_fault t (row_of t text j)) (length t.columns)) (row_count t text)

-- 19: the first field whose characters are wrong; its place is its first byte
unfoldable pub column_place : TextForm → List ℕ → ℕ → ℕ
column_place t text j = row_start t text j + column_start t.columns (column_fault t (row_of t text j))

unfoldable pub field_checks : TextForm → List ℕ → List Check
field_checks t text =
    check (ltb (wrong_field t.fields text) (length t.fields)) 19 (field_start t.fields text (wrong_field t.fields text))
    ∷ check (ltb (wrong_row t text) (row_count t text)) 19 (column_place t text (wrong_row t text))
    ∷ []

-- ---- what the text says besides its figures: the letters of its first line, and the numbers and the words of its component lines
unfoldable pub letters_read : List ℕ → List ℕ
letters_read text = cond (line_stands is_opening text 0) (letters_of (line_of text 0)) []

unfoldable pub run_read : TextForm → List ℕ → List ℕ
run_read t text = join_below (λ j. numbers_read t (row_of t text j)) (row_count t text)

unfoldable pub texts_read : TextForm → List ℕ → List ℕ
texts_read t text = join_below (λ j. words_read t (row_of t text j)) (row_count t text)
