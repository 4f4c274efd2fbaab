-- `fund::run_fault` meets its contract. The loop's invariant: no component below `i` is at fault, and `previous` is the code before the
-- `i`-th.
use mathlib.Core.Path.{◌≡◌}
use Rattle.sequences.specs.Below.{first_below}
use Rattle.layout.specs.Components.{component_at, places_of}
use Rattle.fund.specs.Components.{code_before, fault_at}
use Rattle.fund.proofs.run_fault.Given as goal

abbrev pub invariant-loop-i : goal.invariant-loop-i
invariant-loop-i l =
    (first_below (fault_at l.table l.first_code (places_of (component_at l.run) l.count)) l.i ≡ l.i) × (l.previous ≡ code_before (places_of (component_at l.run) l.count) l.i)
