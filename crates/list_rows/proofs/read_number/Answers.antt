-- `list_rows::read_number` meets its contract: the column by its name is that of the table, and no fields of the head count there.
use Rattle.list_rows.proofs.Rows.{column_of, number_of}
use Rattle.list_rows.proofs.read_number.Goals as goal

pub read_number-requires-clause-column : goal.read_number-requires-clause-column
read_number-requires-clause-column c = column_of c.requires.form c.args.column c.place.ensures c.requires.number

pub returns : goal.returns
returns c = rw c.ok_or.ensures.value (number_of c.requires.form c.args.column c.place.ensures c.args.row.now c.requires.before c.read_number.ensures)
