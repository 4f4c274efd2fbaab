-- `text_columns::is_row` meets its contract. The loop's invariant: the bars before a column stand, and it starts at `at`.
use Rattle.text_columns.proofs.Columns.{Bars}
use Rattle.text_columns.proofs.is_row.Given as goal

abbrev pub invariant-loop-column : goal.invariant-loop-column
invariant-loop-column l = Bars l.column-items l.line l.at l.column-index
