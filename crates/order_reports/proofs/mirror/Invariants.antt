-- `order_reports::mirror` meets its contract: each turn stores the next report behind those that stand.
use mathlib.Core.Path.{◌≡◌}
use lib.Seq.{sets}
use Rattle.sequences.specs.Below.{tabulate}
use Rattle.layout.specs.Laid.{laid}
use Rattle.layout.specs.Reports.{report_numbers}
use Rattle.order_reports.specs.Put.{mirrored}
use Rattle.order_reports.proofs.mirror.Given as goal

abbrev pub invariant-loop-k : goal.invariant-loop-k
invariant-loop-k l = l.fund ≡ sets l.initial.fund 0 (laid report_numbers (tabulate (mirrored l.investor) l.k))
