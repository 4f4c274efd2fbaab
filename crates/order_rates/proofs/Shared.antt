-- Two days with the same head whose components say the same to both kinds of order: what orders read of them is the same.
use Prim.Native.Nat.{ℕ}
use mathlib.Core.Path.{◌≡◌, ap, fun_ext}
use mathlib.Core.List.{List}
use Rattle.sequences.specs.Below.{sum_below}
use Rattle.layout.specs.declared.Component.{Component}
use Rattle.layout.specs.declared.Fund.{Fund}
use Rattle.layout.specs.Day.{Day}
use Rattle.flags.specs.Table.{FlagTable, shanghai}
use Rattle.rules.specs.Lines.{code_of, quantity, column}
use Rattle.rules.specs.Records.{stock_record, order_records}
use Rattle.rules.specs.Reports.{stock_report, order_reports}
use Rattle.rules.specs.Orders.{need, shanghai_cash, other_cash}

-- two days with one head and one flag table
pub record DayPair : Type 0 where
  pub accounts : ℕ
  pub count : ℕ
  pub fund : Fund
  pub table : FlagTable
  pub components : List Component
  pub others : List Component

abbrev pub one : DayPair → Day
one t = record { accounts = t.accounts; count = t.count; fund = t.fund; table = t.table; components = t.components }

abbrev pub other : DayPair → Day
other t = record { accounts = t.accounts; count = t.count; fund = t.fund; table = t.table; components = t.others }

-- codes, quantities and flags are the same
pub record Shared (t : DayPair) : Type 0 where
  pub codes : (i : ℕ) → code_of (one t) i ≡ code_of (other t) i
  pub quantities : (i : ℕ) → quantity (one t) i ≡ quantity (other t) i
  pub columns : (k i : ℕ) → column (one t) k i ≡ column (other t) k i

module _ (t : DayPair) (s : Shared t) where
  pub same_need : (m i : ℕ) → need (one t) m i ≡ need (other t) m i
  unfolding need
  same_need m i = rw (s.quantities i)

  -- cash by market, where the components' cash is the same
  pub same_shanghai : {f g : ℕ → ℕ} → f ≡ g → shanghai_cash (one t) f ≡ shanghai_cash (other t) g
  unfolding shanghai_cash
  same_shanghai h = ap (λ (x : ℕ → ℕ). sum_below x t.count) (fun_ext (λ i. rw (s.columns shanghai i, h)))

  pub same_other : {f g : ℕ → ℕ} → f ≡ g → other_cash (one t) f ≡ other_cash (other t) g
  unfolding other_cash
  same_other h = ap (λ (x : ℕ → ℕ). sum_below x t.count) (fun_ext (λ i. rw (s.columns shanghai i, h)))

  -- the records and the reports, where what moved and each component's cash are the same
  pub same_lists : (stock_side rest_side units : ℕ) {f g x y : ℕ → ℕ} → f ≡ g → x ≡ y
      → (order_records (one t) stock_side rest_side units f (other_cash (one t) x) (shanghai_cash (one t) x)
      ≡ order_records (other t) stock_side rest_side units g (other_cash (other t) y) (shanghai_cash (other t) y))
      × (order_reports (one t) stock_side rest_side units f (other_cash (one t) x) (shanghai_cash (one t) x)
      ≡ order_reports (other t) stock_side rest_side units g (other_cash (other t) y) (shanghai_cash (other t) y))
  unfolding order_records stock_record order_reports stock_report
  same_lists stock_side rest_side units {f} {g} h cash =
      let records : stock_record (one t) stock_side f ≡ stock_record (other t) stock_side g = fun_ext (λ i. rw (s.codes i, h)) in
      let reports : stock_report (one t) stock_side f ≡ stock_report (other t) stock_side g = fun_ext (λ i. rw (s.codes i, h)) in
      (rw (records, same_other cash, same_shanghai cash), rw (reports, same_other cash, same_shanghai cash))
