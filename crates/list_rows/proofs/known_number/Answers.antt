-- `list_rows::known_number` meets its contract, as `read_number` does.
use Rattle.std.proofs.Common.{◌∙◌}
use Rattle.list_rows.proofs.Rows.{column_of, wrong_of, read_of}
use Rattle.list_rows.proofs.known_number.Goals as goal

pub known_number-requires-clause-column : goal.known_number-requires-clause-column
known_number-requires-clause-column c = column_of c.requires.form c.args.column c.place.ensures c.requires.number

pub known_number-requires-clause-right : goal.known_number-requires-clause-right
known_number-requires-clause-right c = wrong_of c.requires.form c.args.column c.place.ensures c.args.row.now ∙ c.requires.right

pub returns : goal.returns
returns c = c.known_number.ensures ∙ read_of c.requires.form c.args.column c.place.ensures c.args.row.now
