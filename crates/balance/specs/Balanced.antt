-- Demand 3: one statement on a whole list of calls from an accepted opening.
use Rattle.std.specs.Prelude.{ℕ, ◌+◌, ◌-◌, ◌≤◌, ◌<◌, ◌≡◌, List}
use Rattle.flags.specs.Table.{table_of}
use Rattle.fund.specs.Fund.{limit_of, cumulative_limit, cumulative_limit_each, net_limit, net_limit_each}
use Rattle.layout.specs.Components.{component_at}
use Rattle.layout.specs.Book.{cash, head_total, line_total}
use Rattle.rules.specs.Lines.{component_of}
use Rattle.rules.specs.Opening.{Opening, holdings_of, held_opened, opened_total, opened_cash, opened_day, opened_book, opened_prices}
use Rattle.rules.specs.declared.Kind.TheVariants.{Creation, Redemption}
use Rattle.rules.specs.Orders.{number_of}
use Rattle.balance.specs.Calls.{State, Event, Happened}
use Rattle.balance.specs.Reported.{AllReported}
use Rattle.balance.specs.Counts.{sold_by, bought_by, got_by, handed_in_by, created_by, redeemed_by, created_by_all, redeemed_by_all}

-- the state that opening leaves
abbrev pub opened : Opening → State
opened o = record { day = opened_day o; book = opened_book o; prices = opened_prices o }

-- a limit above 0 is not passed by so many units
abbrev pub Within : ℕ → ℕ → Type 0
Within limit units = 0 < limit → units ≤ limit

-- the events es from the opening o to the state t
pub record Balanced (o : Opening) (es : List Event) (t : State) : Type 0 where
  -- every answer, book, price, record and report is the definitions'
  pub defined : Happened (opened o) es t
  -- the reports of every accepted order tell both parties its records' cash and stock
  pub reported : AllReported o.fund.first_code es
  -- A, the fund's fields, the flag table and the components are those of the opening
  pub accounts : t.day.accounts ≡ o.accounts
  pub count : t.day.count ≡ o.count
  pub fund : t.day.fund ≡ o.fund
  pub table : t.day.table ≡ table_of o.table
  pub components : (i : ℕ) → i < o.count → component_of t.day i ≡ component_at o.components i
  -- stock and cash keep their totals, and units follow creations and redemptions
  pub stock : (l : ℕ) → l < o.count → line_total t.day t.book l ≡ opened_total o l
  pub money : head_total t.day t.book cash ≡ opened_cash o
  pub units : line_total t.day t.book o.count + redeemed_by_all (opened o) es ≡ opened_total o o.count + created_by_all (opened o) es
  -- bought shares are not sold and got shares are not handed in on the same day
  pub sales : (a l : ℕ) → a < o.accounts → l ≤ o.count → sold_by a l (opened o) es ≤ held_opened l (holdings_of o a) + got_by a l (opened o) es
  pub handing_in : (a l : ℕ) → a < o.accounts → l ≤ o.count → handed_in_by a l (opened o) es ≤ held_opened l (holdings_of o a) + bought_by a l (opened o) es
  -- no limit is passed: cumulative and per account, then net and net per account
  pub creation_limit : Within (limit_of o.fund cumulative_limit (number_of Creation)) (created_by_all (opened o) es)
  pub redemption_limit : Within (limit_of o.fund cumulative_limit (number_of Redemption)) (redeemed_by_all (opened o) es)
  pub creation_limit_each : (a : ℕ) → a < o.accounts → Within (limit_of o.fund cumulative_limit_each (number_of Creation)) (created_by a (opened o) es)
  pub redemption_limit_each : (a : ℕ) → a < o.accounts → Within (limit_of o.fund cumulative_limit_each (number_of Redemption)) (redeemed_by a (opened o) es)
  pub net_creation_limit : Within (limit_of o.fund net_limit (number_of Creation)) (created_by_all (opened o) es - redeemed_by_all (opened o) es)
  pub net_redemption_limit : Within (limit_of o.fund net_limit (number_of Redemption)) (redeemed_by_all (opened o) es - created_by_all (opened o) es)
  pub net_creation_limit_each : (a : ℕ) → a < o.accounts → Within (limit_of o.fund net_limit_each (number_of Creation)) (created_by a (opened o) es - redeemed_by a (opened o) es)
  pub net_redemption_limit_each : (a : ℕ) → a < o.accounts → Within (limit_of o.fund net_limit_each (number_of Redemption)) (redeemed_by a (opened o) es - created_by a (opened o) es)
