-- The columns and the ends of as many lines.
use Rattle.text_rows_writing.proofs.put_rows.Given as goal

abbrev pub ghost-put_columns : goal.ghost-put_columns
ghost-put_columns g a = g.count

abbrev pub ghost-put_ends : goal.ghost-put_ends
ghost-put_ends g a = g.count
