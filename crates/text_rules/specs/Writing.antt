-- Writing a text in a form, as one list of bytes.
use Rattle.std.specs.Prelude.{ℕ, List, ◌++◌}
use Rattle.sequences.specs.Below.{join_below}
use Rattle.sequences.specs.Stretch.{stretch_of}
use Rattle.digits.specs.declared.Figure.{Figure}
use Rattle.lines.specs.Lines.{line_text}
use Rattle.text_rules.specs.Tables.{Field, TextForm}
use Rattle.text_rules.specs.Head.{head_lines, head_line, end_word}
use Rattle.text_rules.specs.Columns.{line_numbers, line_words, row_text}

-- what a text says: the letters of its first line, the figures of its fields, and of so many component lines the numbers and
-- the words, each line's behind the one before
pub record Sheet : Type 0 where
  pub letters : List ℕ
  pub figure : ℕ → Figure
  pub count : ℕ
  pub run : List ℕ
  pub texts : List ℕ

-- the numbers and the words of the j-th component line
unfoldable pub numbers_at : TextForm → List ℕ → ℕ → List ℕ
numbers_at t run j = stretch_of (line_numbers t.columns) run j

unfoldable pub words_at : TextForm → List ℕ → ℕ → List ℕ
words_at t texts j = stretch_of (line_words t.columns) texts j

-- the first n lines of the head, the first n component lines, and all
unfoldable pub head_text : List Field → List ℕ → (ℕ → Figure) → ℕ → List ℕ
head_text fs letters figure n = join_below (λ k. line_text (head_line fs letters figure k)) n

unfoldable pub rows_text : TextForm → List ℕ → List ℕ → ℕ → List ℕ
rows_text t run texts n = join_below (λ j. line_text (row_text t (numbers_at t run j) (words_at t texts j))) n

unfoldable pub sheet_text : TextForm → Sheet → List ℕ
sheet_text t s =
    head_text t.fields s.letters s.figure (head_lines t.fields)
    ++ (rows_text t s.run s.texts s.count ++ line_text end_word)
