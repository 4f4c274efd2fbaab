-- `order_scan::order_scan` meets its contract. The loop's invariant: `t` is the scan of the components below `i`.
use mathlib.Core.Path.{◌≡◌}
use Rattle.order_scan.proofs.Lines.{order_lines, scan_below}
use Rattle.order_scan.proofs.order_scan.Given as goal

abbrev pub invariant-loop-i : goal.invariant-loop-i
invariant-loop-i l = l.t ≡ scan_below (order_lines l.kind l.day.table l.day.components l.parties.account.now l.parties.fund.now l.prices l.m) l.i
