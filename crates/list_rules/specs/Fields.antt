-- The fields of a list: from the figures of the head, as figures of the head, and their ranges.
use Rattle.std.specs.Prelude.{ℕ, ◌+◌, ◌-◌, Bool, cond, List, [], ◌∷◌, leb, ltb, pos, get_or}
use Rattle.sequences.specs.Below.{tabulate}
use Rattle.sequences.specs.Every.{every}
use Rattle.fund.specs.Fund.{cash_in_range, fund_in_range}
use Rattle.digits.specs.declared.Figure.{Figure}
use Rattle.digits.specs.Digits.{plain}
use Rattle.digits.specs.Signed.{signed_of, figure_signed}
use Rattle.layout.specs.Places.{limit_count}
use Rattle.layout.specs.Fund.{blank_fund}
use Rattle.list_rules.specs.declared.ListFields.{ListFields}
use Rattle.text_rules.specs.Dates.{is_date}
use Rattle.text_rules.specs.Well.{most_fields}
use Rattle.list_rules.specs.Shanghai.{field_count, creation_code_field, basket_size_field, cash_ratio_field, publish_field, switch_field, count_field, estimated_cash_field, trading_day_field}
use Rattle.list_rules.specs.Shanghai.{pre_trading_day_field, cash_component_field, basket_value_field, unit_value_field, limits_field}

-- the fields that the head's figures say, by the order of the names: Fundid1 is the code of creation, g + 1
unfoldable pub fields_from : (ℕ → Figure) → ListFields
fields_from figure =
    record {
      fund =
          record {
            first_code = (figure creation_code_field).size - 1;
            basket_size = (figure basket_size_field).size;
            max_cash_ratio = record { 0 = (figure cash_ratio_field).size };
            switch = (figure switch_field).size;
            estimated_cash = signed_of (figure estimated_cash_field);
            limits = tabulate (λ k. (figure (limits_field + k)).size) limit_count;
          };
      publish = (figure publish_field).size;
      trading_day = (figure trading_day_field).size;
      pre_trading_day = (figure pre_trading_day_field).size;
      cash_component = signed_of (figure cash_component_field);
      nav_per_cu = (figure basket_value_field).size;
      nav = (figure unit_value_field).size;
      count = (figure count_field).size;
    }

-- the head's figures that say the fields
unfoldable pub figure_at : ListFields → ℕ → Figure
figure_at l k =
    get_or
    (plain (l.fund.first_code + 1)
    ∷ plain l.fund.basket_size
    ∷ plain l.fund.max_cash_ratio.0
    ∷ plain l.publish
    ∷ plain l.fund.switch
    ∷ plain l.count
    ∷ figure_signed l.fund.estimated_cash
    ∷ plain l.trading_day
    ∷ plain l.pre_trading_day
    ∷ figure_signed l.cash_component
    ∷ plain l.nav_per_cu
    ∷ plain l.nav
    ∷ [])
    k
    (plain (get_or l.fund.limits (k - limits_field) 0))

-- the same in an array with room for more fields
unfoldable pub figures_of : ListFields → List Figure
figures_of l = tabulate (λ k. cond (ltb k field_count) (figure_at l k) (plain 0)) most_fields

-- refusal 2 looks at all of these
unfoldable pub fields_in_range : ListFields → Bool
fields_in_range l =
    every
    (fund_in_range l.fund
    ∷ leb l.publish 1
    ∷ is_date l.trading_day
    ∷ is_date l.pre_trading_day
    ∷ cash_in_range l.cash_component
    ∷ leb l.nav_per_cu 99_999_999_999
    ∷ leb l.nav 9_999_999
    ∷ [])

-- zeros: the fields that `fields_handed` says of a refused text
abbrev pub blank_fields : ListFields
blank_fields =
    record {
      fund = blank_fund;
      publish = 0;
      trading_day = 0;
      pre_trading_day = 0;
      cash_component = pos 0;
      nav_per_cu = 0;
      nav = 0;
      count = 0;
    }
