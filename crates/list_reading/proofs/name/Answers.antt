-- `list_reading::name` meets its contract: a component of the text has its name where its line stands.
use Rattle.std.proofs.Common.{◌∙◌}
use Rattle.list_reading.proofs.Handed.{name_is}
use Rattle.list_reading.proofs.name.Goals as goal

pub returns-in-Ok : goal.returns-in-Ok
returns-in-Ok c = c.name_from.ensures ∙ name_is _ _ c.in-Ok.ensures _ c.if-j-rows.true
