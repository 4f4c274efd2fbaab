-- `order_form::units_of` meets its contract: both counters stand in the account's stretch.
use Rattle.order_form.proofs.Laws.{slot}
use Rattle.order_form.proofs.units_of.Goals as goal

pub head_of-requires-clause-w_in_bounds : goal.head_of-requires-clause-w_in_bounds
head_of-requires-clause-w_in_bounds c = slot _ _ _ _ _ c.requires.0.size c.width_of-w.ensures c.requires.1

pub head_of-requires-2-clause-w_in_bounds : goal.head_of-requires-2-clause-w_in_bounds
head_of-requires-2-clause-w_in_bounds c = slot _ _ _ _ _ c.requires.0.size c.width_of-w.ensures c.requires.1
