-- The Shanghai form of the text: its table of columns, its table of fields, and which is which.
use Rattle.std.specs.Prelude.{ℕ, Bool, true, false, List, [], ◌∷◌, Option, Some, None}
use Rattle.flags.specs.Table.{FlagTable, rate_used, amount_used}
use Rattle.digits.specs.declared.Form.{Form}
use Rattle.lines.specs.Words.{bytes}
use Rattle.text_rules.specs.Dates.{date_digits}
use Rattle.text_rules.specs.declared.Use.{Use}
use Rattle.text_rules.specs.declared.Use.TheVariants.{Always, ByFlag, Text}
use Rattle.text_rules.specs.declared.Column.{Column}
use Rattle.text_rules.specs.Tables.{Field, TextForm, line_form}
use Rattle.text_rules.specs.declared.ValueKind.{ValueKind}
use Rattle.text_rules.specs.declared.ValueKind.TheVariants.{Any, Date, ZeroOrOne}

-- ---- the columns of a component line
abbrev column : ℕ → Option ℕ → ℕ → Use → Column
column width digits decimals used = record { width = width; digits = digits; decimals = decimals; used = used }

-- width, digits, or as many as there are, decimals, and when it is used
unfoldable pub shanghai_columns : List Column
shanghai_columns =
    -- code
    column 6 (Some 6) 0 Always
    -- name
    ∷ column 8 None 0 Text
    -- quantity
    ∷ column 8 None 0 Always
    -- flag
    ∷ column 1 (Some 1) 0 Always
    -- premium
    ∷ column 7 None 5 (ByFlag rate_used)
    -- discount
    ∷ column 7 None 5 (ByFlag rate_used)
    -- amount
    ∷ column 12 None 3 (ByFlag amount_used)
    ∷ []

-- which is which
abbrev pub code_column : ℕ
code_column = 0

abbrev pub name_column : ℕ
name_column = 1

abbrev pub quantity_column : ℕ
quantity_column = 2

abbrev pub flag_column : ℕ
flag_column = 3

abbrev pub premium_column : ℕ
premium_column = 4

abbrev pub discount_column : ℕ
discount_column = 5

abbrev pub amount_column : ℕ
amount_column = 6

-- a name's bytes
abbrev pub name_width : ℕ
name_width = 8

-- ---- the fields of the head
abbrev form : Option ℕ → ℕ → Bool → Form
form digits decimals signed = record { digits = digits; decimals = decimals; signed = signed; width = None }

abbrev field : List ℕ → Form → ValueKind → Field
field name f kind = record { name = name; form = f; kind = kind }

-- a whole number, so many digits, money with two decimals, and the same with a sign
abbrev whole : Form
whole = form None 0 false

abbrev fixed_digits : ℕ → Form
fixed_digits digits = form (Some digits) 0 false

abbrev money : Form
money = form None 2 false

abbrev signed_money : Form
signed_money = form None 2 true

-- name, form and kind
unfoldable pub shanghai_fields : List Field
shanghai_fields =
    field (bytes "Fundid1") (fixed_digits 6) Any
    ∷ field (bytes "CreationRedemptionUnit") whole Any
    ∷ field (bytes "MaxCashRatio") (form None 5 false) Any
    ∷ field (bytes "Publish") whole ZeroOrOne
    ∷ field (bytes "CreationRedemption") whole Any
    ∷ field (bytes "Recordnum") whole Any
    ∷ field (bytes "EstimateCashComponent") signed_money Any
    ∷ field (bytes "TradingDay") (fixed_digits date_digits) Date
    ∷ field (bytes "PreTradingDay") (fixed_digits date_digits) Date
    ∷ field (bytes "CashComponent") signed_money Any
    ∷ field (bytes "NAVperCU") money Any
    ∷ field (bytes "NAV") (form None 4 false) Any
    ∷ field (bytes "CreationLimit") whole Any
    ∷ field (bytes "RedemptionLimit") whole Any
    ∷ field (bytes "CreationLimitPerUser") whole Any
    ∷ field (bytes "RedemptionLimitPerUser") whole Any
    ∷ field (bytes "NetCreationLimit") whole Any
    ∷ field (bytes "NetRedemptionLimit") whole Any
    ∷ field (bytes "NetCreationLimitPerUser") whole Any
    ∷ field (bytes "NetRedemptionLimitPerUser") whole Any
    ∷ []

-- how many they are, and which is which
abbrev pub field_count : ℕ
field_count = 20

abbrev pub creation_code_field : ℕ
creation_code_field = 0

abbrev pub basket_size_field : ℕ
basket_size_field = 1

abbrev pub cash_ratio_field : ℕ
cash_ratio_field = 2

abbrev pub publish_field : ℕ
publish_field = 3

abbrev pub switch_field : ℕ
switch_field = 4

abbrev pub count_field : ℕ
count_field = 5

abbrev pub estimated_cash_field : ℕ
estimated_cash_field = 6

abbrev pub trading_day_field : ℕ
trading_day_field = 7

abbrev pub pre_trading_day_field : ℕ
pre_trading_day_field = 8

abbrev pub cash_component_field : ℕ
cash_component_field = 9

abbrev pub basket_value_field : ℕ
basket_value_field = 10

abbrev pub unit_value_field : ℕ
unit_value_field = 11

abbrev pub limits_field : ℕ
limits_field = 12

-- ---- the form under a flag table, and the same as far as its component lines go
abbrev pub shanghai : FlagTable → TextForm
shanghai t = record { fields = shanghai_fields; columns = shanghai_columns; flag_at = flag_column; flags = t }

abbrev pub shanghai_lines : FlagTable → TextForm
shanghai_lines t = line_form shanghai_columns flag_column t

-- the form for what is the same under every table: which lines stand, and where
abbrev pub shanghai_shape : TextForm
shanghai_shape = shanghai []
