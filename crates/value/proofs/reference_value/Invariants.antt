-- `value::reference_value` meets its contract. The loop's invariant: no component below `i` lacks its price, and `sum` is what those
-- components are worth. Past the loop the sum decides.
use mathlib.Core.Path.{◌≡◌}
use mathlib.Core.Bool.{false}
use Rattle.sequences.specs.Below.{sum_below, any_below}
use Rattle.rules.specs.Value.{worth_at, lacks_price}
use Rattle.value.proofs.reference_value.Given as goal

abbrev pub invariant-loop-i : goal.invariant-loop-i
invariant-loop-i l =
    (any_below (lacks_price l.day l.prices) l.i ≡ false) × (l.sum.0 ≡ sum_below (worth_at l.day l.prices) l.i)
