-- `text_rows_writing::put_columns` meets its contract. The loop's invariant: every line has its first `k` columns.
use mathlib.Core.Path.{◌≡◌}
use Rattle.text_rules.specs.Columns.{taken_before}
use Rattle.text_rows_writing.specs.Lines.{RowsSoFar}
use Rattle.text_rows_writing.proofs.put_columns.Given as goal

abbrev pub invariant-loop-k : goal.invariant-loop-k
invariant-loop-k g l = (l.taken ≡ taken_before l.form.columns l.k) × RowsSoFar l.form l.run l.texts g.count l.k l.rows

-- so many lines are written in each column
abbrev pub ghost-put_words_column : goal.ghost-put_words_column
ghost-put_words_column g a = g.count

abbrev pub ghost-put_numbers_column : goal.ghost-put_numbers_column
ghost-put_numbers_column g a = g.count
