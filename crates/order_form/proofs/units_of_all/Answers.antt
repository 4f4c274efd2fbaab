use native.Mathlib.Omega.{arith}
use Rattle.order_form.proofs.Laws.{counted_all}
use Rattle.order_form.proofs.units_of_all.Goals as goal

pub returns : goal.returns
returns c = counted_all _ _ _ _ _ (omega arith) c.loop-a.invariant.made c.loop-a.invariant.reverse
