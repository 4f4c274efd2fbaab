-- Opening: its tests, refusals 1, 21 and 2 to 4, and what an accepted opening leaves.
use Rattle.std.specs.Prelude.{ℕ, ◌+◌, ◌*◌, Bool, cond, not, ◌||◌, List, [], ◌∷◌, ◌++◌, ltb, eqb, length, get_or, replicate}
use Rattle.sequences.specs.Below.{first_below, join_below}
use Rattle.sequences.specs.Every.{every, inside}
use Rattle.sequences.specs.Checks.{Check, check, Reply, answered}
use Rattle.sequences.specs.Stretch.{stretch_of, over}
use Rattle.flags.specs.Table.{FlagTable, flag_count, table_width, table_of, table_fault}
use Rattle.layout.specs.declared.Fund.{Fund}
use Rattle.layout.specs.declared.Component.{Component}
use Rattle.fund.specs.Fund.{fund_in_range}
use Rattle.layout.specs.Components.{component_at, places_of}
use Rattle.fund.specs.Components.{component_fault}
use Rattle.layout.specs.Places.{component_width, day_width, most_components}
use Rattle.layout.specs.Day.{Day, day_numbers}
use Rattle.rules.specs.Replies.{if_accepted}
use Rattle.layout.specs.Book.{width_of}

-- what opening is given: A, N, the fund, and lent runs of its flag table, of components, of holdings (for each account its cash and
-- then N+1 holdings), and for the book, the prices and the day
pub record Opening : Type 0 where
  pub accounts : ℕ
  pub count : ℕ
  pub fund : Fund
  pub table : List ℕ
  pub components : List ℕ
  pub holdings : List ℕ
  pub book : List ℕ
  pub prices : List ℕ
  pub day : List ℕ

-- what account a opens with: its cash, and its holding of line l
abbrev pub holdings_of : Opening → ℕ → List ℕ
holdings_of o a = stretch_of (o.count + 2) o.holdings a

unfoldable pub cash_opened : List ℕ → ℕ
cash_opened h = get_or h 0 0

unfoldable pub held_opened : ℕ → List ℕ → ℕ
held_opened l h = get_or h (1 + l) 0

-- totals over all accounts
unfoldable pub opened_total : Opening → ℕ → ℕ
opened_total o l = over (o.count + 2) o.accounts (held_opened l) o.holdings

unfoldable pub opened_cash : Opening → ℕ
opened_cash o = over (o.count + 2) o.accounts cash_opened o.holdings

abbrev pub most_of_line : ℕ
most_of_line = 1_000_000_000_000_000_000

abbrev pub most_cash : ℕ
most_cash = 4_000_000_000_000_000_000

-- Opening's tests stand in four stages, joined. Refusal 5 makes them again, on what a later day has.

-- 1: A and N in their ranges, and the book and the prices as long as these need
unfoldable pub day_sizes_fit : ℕ → ℕ → ℕ → ℕ → Bool
day_sizes_fit accounts n book prices =
    every (inside 2 64 accounts ∷ inside 1 most_components n ∷ eqb book (accounts * width_of n) ∷ eqb prices n ∷ [])

unfoldable pub size_checks : Bool → List Check
size_checks fit = check (not fit) 1 0 ∷ []

-- 21: the rules of the flag table
unfoldable pub table_checks : FlagTable → List Check
table_checks table = check (ltb (table_fault table) flag_count) 21 (table_fault table) ∷ []

-- 2 and 3: the fund's fields and its components, under the table
unfoldable pub fund_checks : FlagTable → Fund → List Component → ℕ → List Check
fund_checks table fund components n =
    check (not (fund_in_range fund)) 2 0
    ∷ check (ltb (component_fault table fund.first_code components n) n) 3 (component_fault table fund.first_code components n)
    ∷ []

-- 4: the total of each line, of which N is the unit; the most that units may total; the fund's units; the cash total
pub record DayTotals : Type 0 where
  pub line : ℕ → ℕ
  pub units_most : ℕ
  pub fund_units : ℕ
  pub cash_total : ℕ

-- refusal 4 at a place: a line, or N+1 for cash
unfoldable pub over_at : ℕ → DayTotals → ℕ → Bool
over_at n t i =
    cond (ltb i n) (ltb most_of_line (t.line i))
    (cond (eqb i n) (ltb t.units_most (t.line n) || ltb 0 t.fund_units) (ltb most_cash t.cash_total))

-- the lowest such place, N+2 where there is none
unfoldable pub total_fault : ℕ → DayTotals → ℕ
total_fault n t = first_below (over_at n t) (n + 2)

unfoldable pub total_checks : ℕ → DayTotals → List Check
total_checks n t = check (ltb (total_fault n t) (n + 2)) 4 (total_fault n t) ∷ []

-- all four: whether the sizes fit, the table, the fund and its components, and the totals
unfoldable pub day_checks : Bool → FlagTable → Fund → List Component → ℕ → DayTotals → List Check
day_checks fit table fund components n totals =
    size_checks fit ++ (table_checks table ++ (fund_checks table fund components n ++ total_checks n totals))

-- the day's component places: those of the run, then blank ones
unfoldable pub components_opened : Opening → List Component
components_opened o = places_of (component_at o.components) o.count

-- and for opening the run of the flag table as long as a table, those of components and of holdings as long as these need, and that for
-- the day as long as a day
unfoldable pub lent_sizes_fit : ℕ → ℕ → ℕ → ℕ → ℕ → ℕ → ℕ → ℕ → Bool
lent_sizes_fit accounts n table components holdings book prices day =
    every
    (day_sizes_fit accounts n book prices
    ∷ eqb table table_width
    ∷ eqb components (component_width * n)
    ∷ eqb holdings (accounts * (n + 2))
    ∷ eqb day day_width
    ∷ [])

abbrev pub opening_sizes_fit : Opening → Bool
opening_sizes_fit o =
    lent_sizes_fit o.accounts o.count (length o.table) (length o.components) (length o.holdings) (length o.book) (length o.prices) (length o.day)

-- opening's totals: units may total as much as any line
abbrev pub opened_totals : Opening → DayTotals
opened_totals o =
    record {
      line = opened_total o;
      units_most = most_of_line;
      fund_units = held_opened o.count (holdings_of o 0);
      cash_total = opened_cash o;
    }

unfoldable pub opening_reply : Opening → Reply
opening_reply o =
    answered (day_checks (opening_sizes_fit o) (table_of o.table) o.fund (components_opened o) o.count (opened_totals o)) 0

-- the day that is opened, and the run that says it
unfoldable pub opened_day : Opening → Day
opened_day o = record { accounts = o.accounts; count = o.count; fund = o.fund; table = table_of o.table; components = components_opened o }

unfoldable pub opened_run : Opening → List ℕ
opened_run o = if_accepted (opening_reply o) (day_numbers o.accounts o.count o.fund o.table o.components) o.day

-- an account's stretch: holdings in old; bought, got and the counters are 0
unfoldable pub opened_stretch : ℕ → List ℕ → List ℕ
opened_stretch n h = cash_opened h ∷ 0 ∷ 0 ∷ join_below (λ l. held_opened l h ∷ 0 ∷ 0 ∷ []) (n + 1)

unfoldable pub opened_book : Opening → List ℕ
opened_book o =
    if_accepted (opening_reply o) (join_below (λ a. opened_stretch o.count (holdings_of o a)) o.accounts) o.book

unfoldable pub opened_prices : Opening → List ℕ
opened_prices o = if_accepted (opening_reply o) (replicate o.count 0) o.prices
