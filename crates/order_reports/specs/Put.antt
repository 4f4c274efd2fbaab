-- Reports put one behind another in a run, and the parts of an order's reports.
use Rattle.std.specs.Prelude.{ℕ, ◌+◌, ◌-◌, cond, ltb, eqb, List, [], ◌∷◌, length, Option, None, Some}
use Rattle.std.proofs.lemmas.List.Edits.{sets}
use Rattle.sequences.specs.Below.{join_below}
use Rattle.layout.specs.Places.{report_width}
use Rattle.layout.specs.Laid.{room_of}
use Rattle.layout.specs.Day.{Day}
use Rattle.layout.specs.declared.Group.{Group}
use Rattle.layout.specs.declared.Report.{Report}
use Rattle.layout.specs.Reports.{group_of, report_at, report_numbers}
use Rattle.rules.specs.declared.Kind.{Kind}
use Rattle.rules.specs.declared.CashByMarket.{CashByMarket}
use Rattle.rules.specs.Reports.{stock_type, move_report, cash_groups, cash_reports, stock_report, opposite}
use Rattle.rules.specs.Kinds.{moved_by, stock_side}
use Rattle.order_reports.specs.declared.Reports.{Reports}

-- the group of an amount of cash, none where the amount is 0
unfoldable pub group_there : ℕ → ℕ → Option Group
group_there kind amount = cond (eqb amount 0) None (Some (group_of kind amount))

-- how many more reports the run takes
unfoldable pub reports_left : Reports → ℕ
reports_left o = room_of report_width (length o.run.now - o.at)

-- the run with a report there, and the next free place behind it
abbrev pub with_report : Reports → Report → Reports
with_report o r = record o { run = record o.run { now = sets o.run.now o.at (report_numbers r) }; at = o.at + report_width }

-- the fund's k-th report, from the investor's run
abbrev pub mirrored : List ℕ → ℕ → Report
mirrored investor k = opposite (report_at investor k)

-- the report of a component of whose stock so much moves, if any
unfoldable pub line_report : ℕ → ℕ → ℕ → List Report
line_report code side q = cond (ltb 0 q) (move_report stock_type side code q ∷ []) []

-- an order's reports of stock, and of cash
unfoldable pub stock_reports : Kind → Day → List ℕ → ℕ → List Report
stock_reports kind d s m = join_below (stock_report d (stock_side kind) (moved_by kind d s m)) d.count

abbrev pub told_cash : ℕ → CashByMarket → List Report
told_cash side c = cash_reports side (cash_groups c.other.0 c.shanghai.0)
