-- The places of the columns and of the fields of the head, by their names in the code.
use Rattle.std.specs.Prelude.{ℕ}
use Rattle.list_rules.specs.declared.ListColumn.{ListColumn}
use Rattle.list_rules.specs.declared.ListColumn.TheVariants as columns
use Rattle.list_rules.specs.declared.ListField.{ListField}
use Rattle.list_rules.specs.declared.ListField.TheVariants as fields
use Rattle.list_rules.specs.Shanghai.{code_column, name_column, quantity_column, flag_column, premium_column, discount_column, amount_column}
use Rattle.list_rules.specs.Shanghai.{creation_code_field, basket_size_field, cash_ratio_field, publish_field, switch_field, count_field, estimated_cash_field, trading_day_field}
use Rattle.list_rules.specs.Shanghai.{pre_trading_day_field, cash_component_field, basket_value_field, unit_value_field, limits_field}

abbrev pub column_place : ListColumn → ℕ
column_place columns.Code = code_column
column_place columns.Name = name_column
column_place columns.Quantity = quantity_column
column_place columns.Flag = flag_column
column_place columns.Premium = premium_column
column_place columns.Discount = discount_column
column_place columns.Amount = amount_column

abbrev pub field_place : ListField → ℕ
field_place fields.CreationCode = creation_code_field
field_place fields.BasketSize = basket_size_field
field_place fields.CashRatio = cash_ratio_field
field_place fields.Publish = publish_field
field_place fields.Switch = switch_field
field_place fields.Count = count_field
field_place fields.EstimatedCash = estimated_cash_field
field_place fields.TradingDay = trading_day_field
field_place fields.PreTradingDay = pre_trading_day_field
field_place fields.CashComponent = cash_component_field
field_place fields.BasketValue = basket_value_field
field_place fields.UnitValue = unit_value_field
field_place fields.FirstLimit = limits_field
