-- What the test of the fields of a list says.
use mathlib.Core.Path.{◌≡◌}
use mathlib.Core.Bool.{true}
use Prim.Native.Nat.{◌≤◌}
use borrow.Author.Tests.{leb-true}
use Rattle.sequences.proofs.Every.{every_at}
use Rattle.fund.specs.Fund.{cash_in_range, fund_in_range}
use Rattle.list_rules.specs.declared.ListFields.{ListFields}
use Rattle.text_rules.specs.Dates.{is_date}
use Rattle.list_rules.specs.Fields.{fields_in_range}

pub record FieldRanges (l : ListFields) : Type 0 where
  pub fund : fund_in_range l.fund ≡ true
  pub publish : l.publish ≤ 1
  pub trading_day : is_date l.trading_day ≡ true
  pub pre_trading_day : is_date l.pre_trading_day ≡ true
  pub cash : cash_in_range l.cash_component ≡ true
  pub nav_per_cu : l.nav_per_cu ≤ 99_999_999_999
  pub nav : l.nav ≤ 9_999_999

pub fields_sound : (l : ListFields) → fields_in_range l ≡ true → FieldRanges l
unfolding fields_in_range
fields_sound l e =
    let at = every_at _ e in
    record {
      fund = at 0;
      publish = leb-true _ _ (at 1);
      trading_day = at 2;
      pre_trading_day = at 3;
      cash = at 4;
      nav_per_cu = leb-true _ _ (at 5);
      nav = leb-true _ _ (at 6);
    }
