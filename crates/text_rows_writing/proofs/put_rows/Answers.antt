-- `text_rows_writing::put_rows` meets its contract: lines of blanks get every column, and then their end.
use Rattle.text_rules.proofs.Placed.{whole_bytes, whole_low, whole_pitch}
use Rattle.text_rows_writing.proofs.Turns.{table_ready}
use Rattle.text_rows_writing.proofs.Rows.{rows_end}
use Rattle.text_rows_writing.proofs.put_rows.Goals as goal

pub put_ends-requires : goal.put_ends-requires
put_ends-requires g c =
    let p = c.requires in
    let table = table_ready c.columns.ensures.well p.0 c.columns.ensures.value c.whole-line.ensures.value in
    (rw (whole_pitch _ table.whole) c.put_columns.ensures.long, whole_low _ table.whole table.well)

pub returns : goal.returns
returns g c =
    let p = c.requires in
    let table = table_ready c.columns.ensures.well p.0 c.columns.ensures.value c.whole-line.ensures.value in
    rows_end _ _ _ _ (record { numbers = p.1.0.0; words = p.1.0.1; fits = p.1.1.1 }) c.put_columns.ensures
    (rw (whole_pitch _ table.whole, whole_bytes _ table.whole) at c.put_ends.ensures)
