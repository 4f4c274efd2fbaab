-- Everything about a component, read by the day and the line. Line N, the unit, is no component.
use Rattle.std.specs.Prelude.{ℕ, Bool, List, get_or}
use Rattle.flags.specs.Table
use Rattle.layout.specs.declared.Component.{Component}
use Rattle.layout.specs.Components.{blank}
use Rattle.layout.specs.Day.{Day}

abbrev pub component_of : Day → ℕ → Component
component_of d i = get_or d.components i blank

unfoldable pub code_of : Day → ℕ → ℕ
code_of d i = (component_of d i).code

-- Q
unfoldable pub quantity : Day → ℕ → ℕ
quantity d i = (component_of d i).quantity

-- the flag's columns, in the day's table
unfoldable pub column : Day → ℕ → ℕ → Bool
column d k i = Table.entry d.table (component_of d i).flag k

abbrev pub moves_stock : Day → ℕ → Bool
moves_stock d i = column d Table.stock_moves i

abbrev pub cash_for_shortage : Day → ℕ → Bool
cash_for_shortage d i = column d Table.shortage_in_cash i

abbrev pub is_shanghai : Day → ℕ → Bool
is_shanghai d i = column d Table.shanghai i

abbrev pub is_priced : Day → ℕ → Bool
is_priced d i = column d Table.priced i

-- r: creation takes the premium, redemption the discount; an unused one is 0
unfoldable pub creation_rate : Day → ℕ → ℕ
creation_rate d i = (component_of d i).premium.0

unfoldable pub redemption_rate : Day → ℕ → ℕ
redemption_rate d i = (component_of d i).discount.0

-- P, as creation and the reference value and as redemption take it; an unused one is 0
unfoldable pub creation_amount : Day → ℕ → ℕ
creation_amount d i = (component_of d i).amount.0

unfoldable pub redemption_amount : Day → ℕ → ℕ
redemption_amount d i = (component_of d i).amount.0

-- a component's price; 0 means none
unfoldable pub price_of : List ℕ → ℕ → ℕ
price_of prices i = get_or prices i 0
