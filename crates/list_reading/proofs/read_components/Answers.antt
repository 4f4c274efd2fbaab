-- `list_reading::read_components` meets its contract: the component lines are few, none is at fault, and all their numbers are stored.
use Rattle.std.proofs.Common.{◌∙◌, sym, arith}
use Rattle.list_reading.proofs.Handed.{rows_right, rows_few}
use Rattle.list_reading.proofs.Outcomes.{stored_outcome}
use Rattle.list_reading.proofs.read_components.Goals as goal

pub overflow_mul-rows : goal.overflow_mul-rows
overflow_mul-rows c = omega (arith, rows_few c.requires.ranged)

pub store_rows-requires-clause-right : goal.store_rows-requires-clause-right
store_rows-requires-clause-right c = rows_right _ _ c.requires.ranged.fields_well_lem

pub returns : goal.returns
returns c = stored_outcome _ _ _ c.requires.ranged (sym c.in_default.is ∙ c.requires.fault) c.if-run-rows.false c.store_rows.ensures
