-- The columns that orders and the reference value read, of each component's flag: by the day's table, and by document 01's five rows.
use Rattle.std.specs.Prelude.{ℕ, Bool}
use Rattle.flags.specs.Table.{stock_moves, shortage_in_cash, shanghai, priced}
use Rattle.layout.specs.Day.{Day}
use Rattle.rules.specs.Lines.{component_of, column}
use Rattle.five_flags.specs.Rows.{five_entry}

pub record Columns : Type 0 where
  pub moves_stock : ℕ → Bool
  pub cash_for_shortage : ℕ → Bool
  pub is_shanghai : ℕ → Bool
  pub is_priced : ℕ → Bool

-- where `says k i` is what component i has in column k
abbrev pub columns_by : (ℕ → ℕ → Bool) → Columns
columns_by says =
    record {
      moves_stock = says stock_moves;
      cash_for_shortage = says shortage_in_cash;
      is_shanghai = says shanghai;
      is_priced = says priced;
    }

abbrev pub table_columns : Day → Columns
table_columns d = columns_by (column d)

abbrev pub five_columns : Day → Columns
five_columns d = columns_by (λ k i. five_entry (component_of d i).flag k)
