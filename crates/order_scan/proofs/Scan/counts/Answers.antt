-- `order_scan::Scan::counts` meets its contract: the counts of cash are the definitions', at most 2 of records and 1 of reports.
use native.Mathlib.Omega.{arith}
use Rattle.order_scan.specs.Lines.{scan_counts}
use Rattle.order_scan.proofs.Counts.{cash_count-le, cash_reports-le}
use Rattle.order_scan.proofs.Scan.counts.Goals as goal

pub overflow_add-result-2 : goal.overflow_add-result-2
overflow_add-result-2 c = omega (arith, c.cash_count.ensures, cash_count-le c.args.self.cash.other.0)

pub overflow_add-result-3 : goal.overflow_add-result-3
overflow_add-result-3 c =
    let t = c.args.self in
    omega (arith, c.cash_count.ensures, c.cash_count-2.ensures, cash_count-le t.cash.other.0, cash_count-le t.cash.shanghai.0)

pub overflow_add-result-5 : goal.overflow_add-result-5
overflow_add-result-5 c = omega (arith, c.reports.ensures, cash_reports-le c.args.self.cash)

pub returns : goal.returns
unfolding scan_counts
returns c = rw (c.cash_count.ensures, c.cash_count-2.ensures, c.reports.ensures)
