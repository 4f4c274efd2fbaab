-- A day, and the run that says it.
use Rattle.std.specs.Prelude.{ℕ, ◌-◌, cond, List, [], ◌∷◌, ◌++◌, eqb, length, get_or, take, drop, replicate}
use Rattle.flags.specs.Table.{FlagTable, table_width, table_of}
use Rattle.layout.specs.declared.Component.{Component}
use Rattle.layout.specs.declared.Fund.{Fund}
use Rattle.layout.specs.declared.DayHead.{DayHead}
use Rattle.layout.specs.Places.{most_components, basket_width, fund_from, table_from, basket_from, day_width}
use Rattle.layout.specs.Components.{blank, component_at, places_of}
use Rattle.layout.specs.Fund.{fund_at, fund_numbers, blank_fund}

-- one fund's day: A, N, the fund, its flag table, and the component places; those past N hold the blank component
pub record Day : Type 0 where
  pub accounts : ℕ
  pub count : ℕ
  pub fund : Fund
  pub table : FlagTable
  pub components : List Component

-- the day of a head, the numbers of a flag table and a basket
abbrev pub day_of : DayHead → List ℕ → List ℕ → Day
day_of h numbers basket =
    record {
      accounts = h.accounts;
      count = h.count;
      fund = h.fund;
      table = table_of numbers;
      components = places_of (component_at basket) most_components;
    }

-- the parts of a day's run
unfoldable pub day_head_at : List ℕ → DayHead
day_head_at run = record { accounts = get_or run 0 0; count = get_or run 1 0; fund = fund_at run fund_from }

unfoldable pub table_numbers_at : List ℕ → List ℕ
table_numbers_at run = take table_width (drop table_from run)

unfoldable pub basket_at : List ℕ → List ℕ
basket_at run = drop basket_from run

-- the day with no account and no component, which a run of another length than a day's says; its table has no row
abbrev pub blank_day : Day
blank_day = record { accounts = 0; count = 0; fund = blank_fund; table = []; components = replicate most_components blank }

unfoldable pub day_at : List ℕ → Day
day_at run = cond (eqb (length run) day_width) (day_of (day_head_at run) (table_numbers_at run) (basket_at run)) blank_day

-- the run of a day with A, N, the fund, a run of its flag table and a run of components; zeros stand behind these
unfoldable pub day_numbers : ℕ → ℕ → Fund → List ℕ → List ℕ → List ℕ
day_numbers accounts count f numbers components =
    accounts ∷ count ∷ (fund_numbers f ++ (numbers ++ (components ++ replicate (basket_width - length components) 0)))
