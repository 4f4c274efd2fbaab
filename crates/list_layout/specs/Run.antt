-- A list's fields as a run of numbers: the fund, and then Publish, TradingDay, PreTradingDay, CashComponent, NAVperCU, NAV and N.
use Rattle.std.specs.Prelude.{ℕ, ◌+◌, List, [], ◌∷◌, ◌++◌, get_or}
use Rattle.layout.specs.Places.{fund_width}
use Rattle.layout.specs.Fund.{signed_at, signed_numbers, fund_at, fund_numbers}
use Rattle.list_rules.specs.declared.ListFields.{ListFields}

abbrev pub fields_width : ℕ
fields_width = fund_width + 8

unfoldable pub fields_at : List ℕ → ListFields
fields_at run =
    record {
      fund = fund_at run 0;
      publish = get_or run fund_width 0;
      trading_day = get_or run (fund_width + 1) 0;
      pre_trading_day = get_or run (fund_width + 2) 0;
      cash_component = signed_at run (fund_width + 3);
      nav_per_cu = get_or run (fund_width + 5) 0;
      nav = get_or run (fund_width + 6) 0;
      count = get_or run (fund_width + 7) 0;
    }

unfoldable pub fields_numbers : ListFields → List ℕ
fields_numbers l =
    fund_numbers l.fund
    ++ (l.publish ∷ l.trading_day ∷ l.pre_trading_day ∷ (signed_numbers l.cash_component ++ (l.nav_per_cu ∷ l.nav ∷ l.count ∷ [])))
