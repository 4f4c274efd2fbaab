-- Widths and places in the lent runs of numbers.
use Rattle.std.specs.Prelude.{ℕ, ◌+◌, ◌*◌}
use Rattle.flags.specs.Table.{table_width}

-- components: how many a day has room for, the numbers of one, and those of all, a day's basket
abbrev pub most_components : ℕ
most_components = 300

abbrev pub component_width : ℕ
component_width = 6

abbrev pub basket_width : ℕ
basket_width = most_components * component_width

-- a fund: first code, basket size, maximum cash ratio, switch, estimated cash (a sign and a size) and the limits
abbrev pub limit_count : ℕ
limit_count = 8

abbrev pub cash_place : ℕ
cash_place = 4

abbrev pub limits_from : ℕ
limits_from = 6

abbrev pub fund_width : ℕ
fund_width = limits_from + limit_count

-- a day: A, N, the fund, its flag table, and the basket
abbrev pub fund_from : ℕ
fund_from = 2

abbrev pub table_from : ℕ
table_from = fund_from + fund_width

abbrev pub basket_from : ℕ
basket_from = table_from + table_width

abbrev pub day_width : ℕ
day_width = basket_from + basket_width

-- an account's stretch: cash, units created, units redeemed, and then old, bought and got of each line
abbrev pub lines_from : ℕ
lines_from = 3

abbrev pub line_width : ℕ
line_width = 3

-- a record: code, side, quantity, price, amount
abbrev pub record_width : ℕ
record_width = 5

-- a report: type, side, code, quantity, and three groups of kind and amount
abbrev pub report_width : ℕ
report_width = 10

-- a list of calls: a row, and an answer (number, place, value and count of reports)
abbrev pub row_width : ℕ
row_width = 9

abbrev pub answer_width : ℕ
answer_width = 4
