-- The loop's invariant: what the first `i` columns take is added.
use mathlib.Core.Path.{◌≡◌}
use Rattle.text_rules.specs.Columns.{taken_before}
use Rattle.text_rules.proofs.Columns.taken_before.Given as goal

abbrev pub invariant-loop-i : goal.invariant-loop-i
invariant-loop-i l = l.taken ≡ taken_before l.self l.i
