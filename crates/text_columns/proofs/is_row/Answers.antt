-- Before the first column no bar is passed, and the line has its length.
use Rattle.text_columns.proofs.Columns.{bars_start}
use Rattle.text_columns.proofs.is_row.Goals as goal

pub loop-column-init : goal.loop-column-init
loop-column-init c = bars_start _ _ (cc)
