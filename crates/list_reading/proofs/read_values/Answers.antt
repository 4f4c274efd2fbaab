-- `list_reading::read_values` meets its contract: past refusal 20 there are few enough component lines, so the first at fault is the definition's.
use Rattle.std.proofs.Common.{◌∙◌, sym}
use Rattle.list_reading.proofs.Handed.{fault_found}
use Rattle.list_reading.proofs.read_values.Goals as goal

pub read_components-requires-clause-fault : goal.read_components-requires-clause-fault
read_components-requires-clause-fault c = fault_found c.requires.spelled c.of.result.size (sym c.is_counted.ensures ∙ c.if-not-is_counted.false) c.requires.found
