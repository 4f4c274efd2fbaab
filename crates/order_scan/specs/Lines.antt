-- The scan of all components below an index.
use Rattle.std.specs.Prelude.{cond, List, Option, Some, None, ℕ, ◌+◌, ltb, eqb}
use Rattle.std.specs.Bool.{then_some}
use Rattle.std.specs.Option.{option_or}
use Rattle.units.specs.declared.Money.{Money}
use Rattle.units.specs.Units.{split_size}
use Rattle.rules.specs.declared.Kind.{Kind}
use Rattle.rules.specs.declared.CashByMarket.{CashByMarket}
use Rattle.rules.specs.declared.Counts.{Counts}
use Rattle.layout.specs.Book.{lots_at}
use Rattle.rules.specs.Creation.{available}
use Rattle.rules.specs.Kinds.{by_kind, no_cash, cash_report_count}
use Rattle.order_lines.specs.Lines.{money, Effect}
use Rattle.order_scan.specs.declared.Scan.{Scan}

-- what there is of component i: of the account, with the stretch s, to hand in; or the old lot of the fund, with the stretch f
unfoldable pub held_of : Kind → List ℕ → List ℕ → ℕ → ℕ
held_of kind s f i = by_kind kind (available s i) (lots_at f i).old

-- one record for stock that moved
abbrev pub stock_count : ℕ → ℕ
stock_count moved = cond (ltb 0 moved) 1 0

-- what is missing is worth with that of one line more
abbrev pub with_missing : Option Money → Option Money → Option Money
with_missing None y = y
with_missing (Some x) None = Some x
with_missing (Some x) (Some y) = Some (money (x.0 + y.0))

-- cash with that of one line more
unfoldable pub with_cash : CashByMarket → CashByMarket → CashByMarket
with_cash c x = record { shanghai = money (c.shanghai.0 + x.shanghai.0); other = money (c.other.0 + x.other.0) }

-- a scan of i lines with one more
unfoldable pub with_line : Scan → ℕ → Effect → Scan
with_line t i x =
    record {
      short = option_or t.short (then_some x.short i);
      missing = with_missing t.missing x.worth;
      cash = with_cash t.cash x.cash;
      stock_records = t.stock_records + stock_count x.moved;
    }

abbrev pub no_lines : Scan
no_lines = record { short = None; missing = None; cash = no_cash; stock_records = 0 }

-- records that an amount of cash takes: none at 0, one below the split size, else two
unfoldable pub cash_count : ℕ → ℕ
cash_count c = cond (eqb c 0) 0 (cond (ltb c split_size) 1 2)

-- records of the order, with the two of the unit, and reports to a party, with the unit's
unfoldable pub scan_counts : Scan → Counts
scan_counts t =
    record {
      records = 2 + t.stock_records + cash_count t.cash.other.0 + cash_count t.cash.shanghai.0;
      reports = 1 + t.stock_records + cash_report_count t.cash;
    }
