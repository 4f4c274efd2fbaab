-- Which column has which number of a component: it is read from the column of its name, and written in it.
use mathlib.Core.Path.{◌≡◌, refl}
use mathlib.Core.List.{List}
use Prim.Native.Nat.{ℕ}
use Rattle.sequences.specs.Below.{sum_below, join_below}
use Rattle.flags.specs.Table.{FlagTable}
use Rattle.layout.specs.declared.Component.{Component}
use Rattle.layout.specs.Components.{component_at, component_numbers}
use Rattle.text_rules.specs.Tables.{column_at}
use Rattle.text_rules.specs.Columns.{is_text, holds_text, numbers_before, numbers_read, cell_at}
use Rattle.list_rules.specs.Shanghai.{shanghai, shanghai_columns}
use Rattle.list_rules.specs.Shanghai.{code_column, quantity_column, flag_column, premium_column, discount_column, amount_column}
use Rattle.list_rules.specs.Reading.{line_component}

-- reading
pub line_component_lem : (t : FlagTable) (l : List ℕ) → component_at (numbers_read (shanghai t) l) 0 ≡ line_component t l
unfolding shanghai_columns numbers_read holds_text is_text column_at join_below component_at line_component
line_component_lem t l = refl

-- writing
pub record ColumnsSay (c : Component) : Type 0 where
  pub code : cell_at shanghai_columns (component_numbers c) code_column ≡ c.code
  pub quantity : cell_at shanghai_columns (component_numbers c) quantity_column ≡ c.quantity
  pub flag : cell_at shanghai_columns (component_numbers c) flag_column ≡ c.flag
  pub premium : cell_at shanghai_columns (component_numbers c) premium_column ≡ c.premium.0
  pub discount : cell_at shanghai_columns (component_numbers c) discount_column ≡ c.discount.0
  pub amount : cell_at shanghai_columns (component_numbers c) amount_column ≡ c.amount.0

pub columns_say : (c : Component) → ColumnsSay c
unfolding shanghai_columns cell_at numbers_before holds_text is_text column_at sum_below component_numbers
columns_say c = record { code = refl; quantity = refl; flag = refl; premium = refl; discount = refl; amount = refl }
