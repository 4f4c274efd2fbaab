-- `list_rows::read_name` meets its contract: what the test of the words says of the name is what the definition says.
use Rattle.list_rules.specs.declared.ListColumn.TheVariants as columns
use Rattle.list_rows.proofs.Rows.{column_of, name_holds, name_right, name_fault}
use Rattle.list_rows.proofs.read_name.Goals as goal

pub has_words-requires-clause-column : goal.has_words-requires-clause-column
has_words-requires-clause-column c = column_of c.requires.form columns.Name c.place.ensures name_holds

pub returns-then-has_words : goal.returns-then-has_words
returns-then-has_words c = name_right c.requires.form c.place.ensures c.args.row.now c.requires.before c.has_words.ensures c.if-has_words.true

pub returns-else-has_words : goal.returns-else-has_words
returns-else-has_words c = name_fault c.requires.form c.place.ensures c.args.row.now c.requires.before c.has_words.ensures c.if-has_words.false
