-- `list_rows::known_numbers` meets its contract: where no column is at fault, each is right.
use Rattle.list_rules.specs.Reading.{line_component}
use Rattle.layout.specs.Components.{component_numbers}
use Rattle.list_rules.specs.declared.ListColumn.TheVariants as columns
use Rattle.list_rows.proofs.Rows.{column_right}
use Rattle.list_rows.proofs.known_numbers.Goals as goal

pub known_number-requires-clause-right : goal.known_number-requires-clause-right
known_number-requires-clause-right c = column_right _ _ c.requires.right columns.Code

pub known_number-requires-2-clause-right : goal.known_number-requires-2-clause-right
known_number-requires-2-clause-right c = column_right _ _ c.requires.right columns.Quantity

pub known_number-requires-3-clause-right : goal.known_number-requires-3-clause-right
known_number-requires-3-clause-right c = column_right _ _ c.requires.right columns.Flag

pub known_number-requires-4-clause-right : goal.known_number-requires-4-clause-right
known_number-requires-4-clause-right c = column_right _ _ c.requires.right columns.Premium

pub known_number-requires-5-clause-right : goal.known_number-requires-5-clause-right
known_number-requires-5-clause-right c = column_right _ _ c.requires.right columns.Discount

pub known_number-requires-6-clause-right : goal.known_number-requires-6-clause-right
known_number-requires-6-clause-right c = column_right _ _ c.requires.right columns.Amount

pub returns : goal.returns
unfolding component_numbers line_component
returns c = rw (c.known_number.ensures, c.known_number-2.ensures, c.known_number-3.ensures, c.known_number-4.ensures, c.known_number-5.ensures, c.known_number-6.ensures)
