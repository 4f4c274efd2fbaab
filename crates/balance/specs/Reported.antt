-- What the lists hold after an accepted order: its reports tell each party the cash and the stock of its records.
use Rattle.std.specs.Prelude.{ℕ, suc, ◌+◌, ◌<◌, ◌≡◌, Bool, true, false, cond, List, [], ◌∷◌, eqb}
use Rattle.sequences.specs.Below.{sum_below}
use Rattle.sequences.specs.Checks.{is_accepted}
use Rattle.sequences.specs.Same.{when_same}
use Rattle.layout.specs.declared.Group.{Group}
use Rattle.layout.specs.declared.Report.{Report}
use Rattle.layout.specs.Records.{record_at}
use Rattle.layout.specs.Reports.{report_at}
use Rattle.fund.specs.Components.{outside_group}
use Rattle.rules.specs.Records.{shanghai_step, other_step}
use Rattle.rules.specs.Reports.{stock_type, shanghai_kind, opposite}
use Rattle.balance.specs.Calls.{Call, Event, Result, price, trade, create, redeem, value}

-- the amounts of the first n records of a list, and of those under a code
unfoldable pub amounts : List ℕ → ℕ → ℕ
amounts list n = sum_below (λ k. (record_at list k).amount.0) n

unfoldable pub amounts_under : ℕ → List ℕ → ℕ → ℕ
amounts_under code list n = sum_below (λ k. when_same (record_at list k).code code (record_at list k).amount.0) n

-- a group's amount; where it is of a kind; and where it is of another
abbrev pub amount_of : Group → ℕ
amount_of g = g.amount.0

abbrev pub of_kind : ℕ → Group → ℕ
of_kind kind g = when_same g.kind kind g.amount.0

abbrev pub other_than : ℕ → Group → ℕ
other_than kind g = cond (eqb g.kind kind) 0 g.amount.0

-- over the groups of the first n reports of a list
abbrev pub over_groups : (Group → ℕ) → Report → ℕ
over_groups f r = f r.first + f r.second + f r.third

unfoldable pub group_total : (Group → ℕ) → List ℕ → ℕ → ℕ
group_total f list n = sum_below (λ k. over_groups f (report_at list k)) n

-- cash: m reports against n records, in a fund with the first code g
pub record CashTold (g : ℕ) (records : List ℕ) (n : ℕ) (reports : List ℕ) (m : ℕ) : Type 0 where
  pub shanghai : group_total (of_kind shanghai_kind) reports m ≡ amounts_under (g + shanghai_step) records n
  pub other : group_total (other_than shanghai_kind) reports m ≡ amounts_under (g + other_step) records n
  pub all : group_total amount_of reports m ≡ amounts records n

-- how many of the first n numbers pass a test
unfoldable pub count_below : (ℕ → Bool) → ℕ → ℕ
count_below f n = sum_below (λ k. cond (f k) 1 0) n

-- the reports of stock, and the records of stock, which have no code of the fund's group
abbrev pub is_stock_report : List ℕ → ℕ → Bool
is_stock_report reports k = eqb (report_at reports k).report_type stock_type

abbrev pub is_stock_record : ℕ → List ℕ → ℕ → Bool
is_stock_record g records k = outside_group g (record_at records k).code

-- the report and the record at a place are of stock, with the same code and quantity
pub record SameStock (g : ℕ) (records reports : List ℕ) (k : ℕ) : Type 0 where
  pub of_stock : is_stock_report reports k ≡ true
  pub recorded : is_stock_record g records k ≡ true
  pub code : (report_at reports k).code ≡ (record_at records k).code
  pub quantity : (report_at reports k).quantity ≡ (record_at records k).quantity

-- stock: there are as many reports as records, and they stand behind the unit's, in the same order
pub record StockTold (g : ℕ) (records : List ℕ) (n : ℕ) (reports : List ℕ) (m : ℕ) : Type 0 where
  pub many : count_below (is_stock_report reports) m ≡ count_below (is_stock_record g records) n
  pub each : (k : ℕ) → k < count_below (is_stock_report reports) m → SameStock g records reports (suc k)

-- an accepted order's result
pub record Reported (g : ℕ) (r : Result) : Type 0 where
  pub investor_cash : CashTold g r.lent.records r.reply.value r.lent.investor r.reply.reports
  pub fund_cash_lem : CashTold g r.lent.records r.reply.value r.lent.fund r.reply.reports
  pub stock : StockTold g r.lent.records r.reply.value r.lent.investor r.reply.reports
  -- the fund's reports are the investor's with the side turned
  pub mirrored : (k : ℕ) → k < r.reply.reports → report_at r.lent.fund k ≡ opposite (report_at r.lent.investor k)

abbrev pub is_order : Call → Bool
is_order (price line p) = false
is_order (trade line q p seller buyer) = false
is_order (create account units) = true
is_order (redeem account units) = true
is_order value = false

-- every accepted order of the events
unfoldable pub AllReported : ℕ → List Event → Type 0
AllReported g [] = Unit {0}
AllReported g (e ∷ es) = (is_order e.call ≡ true → is_accepted e.result.reply ≡ true → Reported g e.result) × AllReported g es
