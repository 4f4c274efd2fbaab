-- A flag table: for each of the flags 0 to 9 six columns, and whether the flag is in use.
use Rattle.std.specs.Prelude.{ℕ, ◌*◌, Bool, cond, not, ◌&&◌, ◌||◌, List, [], ◌∷◌, leb, ltb, eqb, get_or}
use Rattle.std.specs.List.{flat_map}
use Rattle.std.specs.Simd.{first_chunks}
use Rattle.sequences.specs.Below.{all_below, first_below}
use Rattle.sequences.specs.Every.{every}
use Rattle.flags.specs.declared.Column.{Column}
use Rattle.flags.specs.declared.Column.TheVariants.{StockMoves, ShortageInCash, RateUsed, AmountUsed, Shanghai, Priced, InUse}

-- ---- its rows and columns

-- a row of numbers for each flag; 1 says yes
abbrev pub FlagTable : Type 0
FlagTable = List (List ℕ)

-- how many flags and columns a table has, and how many numbers
abbrev pub flag_count : ℕ
flag_count = 10

abbrev pub flag_columns : ℕ
flag_columns = 7

abbrev pub table_width : ℕ
table_width = flag_count * flag_columns

abbrev pub stock_moves : ℕ
stock_moves = 0

abbrev pub shortage_in_cash : ℕ
shortage_in_cash = 1

abbrev pub rate_used : ℕ
rate_used = 2

abbrev pub amount_used : ℕ
amount_used = 3

abbrev pub shanghai : ℕ
shanghai = 4

abbrev pub priced : ℕ
priced = 5

abbrev pub in_use : ℕ
in_use = 6

-- the place of a column
abbrev pub column_number : Column → ℕ
column_number StockMoves = stock_moves
column_number ShortageInCash = shortage_in_cash
column_number RateUsed = rate_used
column_number AmountUsed = amount_used
column_number Shanghai = shanghai
column_number Priced = priced
column_number InUse = in_use

-- a table's numbers, row after row, and the table that a run of so many says
abbrev pub table_numbers : FlagTable → List ℕ
table_numbers t = flat_map (λ row. row) t

unfoldable pub table_of : List ℕ → FlagTable
table_of numbers = first_chunks flag_columns flag_count numbers

-- ---- what it says

abbrev pub row_of : FlagTable → ℕ → List ℕ
row_of t flag = get_or t flag []

unfoldable pub says : List ℕ → ℕ → Bool
says row column = eqb (get_or row column 0) 1

-- what a table has for a flag in a column: yes only where the flag is in use; no past either end
unfoldable pub entry : FlagTable → ℕ → ℕ → Bool
entry t flag column =
    (ltb flag flag_count && ltb column flag_columns) && (says (row_of t flag) in_use && says (row_of t flag) column)

-- ---- refusal 21: the rules of a table

-- all numbers of a row are 0 or 1
unfoldable pub is_binary : List ℕ → Bool
is_binary row = all_below (λ k. leb (get_or row k 0) 1) flag_columns

-- a flag in use either moves stock, is Shanghai, is priced and uses no amount, or moves none and uses an amount
unfoldable pub use_fits : List ℕ → Bool
use_fits row =
    cond (says row stock_moves) (every (says row shanghai ∷ says row priced ∷ not (says row amount_used) ∷ []))
    (says row amount_used)

-- cash stands for a shortage only where stock moves, and then the rate is used
unfoldable pub shortage_fits : List ℕ → Bool
shortage_fits row = not (says row shortage_in_cash) || every (says row stock_moves ∷ says row rate_used ∷ [])

-- what stands in a row that is not in use has no meaning
unfoldable pub row_fits : List ℕ → Bool
row_fits row = every (is_binary row ∷ (not (says row in_use) || every (use_fits row ∷ shortage_fits row ∷ [])) ∷ [])

-- the lowest flag at fault, their count where there is none
unfoldable pub table_fault : FlagTable → ℕ
table_fault t = first_below (λ flag. not (row_fits (row_of t flag))) flag_count

-- ---- our table, which is the day's where none is given: flags 0 to 4 of document 01; 5 to 9 are not in use

-- columns: stock moves, shortage in cash, r used, P used, Shanghai, priced, in use
unfoldable pub flag_table : FlagTable
flag_table =
    (1 ∷ 0 ∷ 0 ∷ 0 ∷ 1 ∷ 1 ∷ 1 ∷ [])
    ∷ (1 ∷ 1 ∷ 1 ∷ 0 ∷ 1 ∷ 1 ∷ 1 ∷ [])
    ∷ (0 ∷ 0 ∷ 0 ∷ 1 ∷ 1 ∷ 0 ∷ 1 ∷ [])
    ∷ (0 ∷ 0 ∷ 1 ∷ 1 ∷ 0 ∷ 1 ∷ 1 ∷ [])
    ∷ (0 ∷ 0 ∷ 0 ∷ 1 ∷ 0 ∷ 0 ∷ 1 ∷ [])
    ∷ (0 ∷ 0 ∷ 0 ∷ 0 ∷ 0 ∷ 0 ∷ 0 ∷ [])
    ∷ (0 ∷ 0 ∷ 0 ∷ 0 ∷ 0 ∷ 0 ∷ 0 ∷ [])
    ∷ (0 ∷ 0 ∷ 0 ∷ 0 ∷ 0 ∷ 0 ∷ 0 ∷ [])
    ∷ (0 ∷ 0 ∷ 0 ∷ 0 ∷ 0 ∷ 0 ∷ 0 ∷ [])
    ∷ (0 ∷ 0 ∷ 0 ∷ 0 ∷ 0 ∷ 0 ∷ 0 ∷ [])
    ∷ []
