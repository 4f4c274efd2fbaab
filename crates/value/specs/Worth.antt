-- What the code takes a reference value from: one component's part, the last step, and the ranges under which nothing wraps.
use Rattle.std.specs.Prelude.{◌≡◌, Bool, true, cond, List, [], ◌∷◌, ℕ, ◌-◌, ◌*◌, ◌≤◌, ◌<◌, leb, ltb, eqb, length}
use Rattle.sequences.specs.Every.{every}
use Rattle.sequences.specs.Checks.{Reply, reply}
use Rattle.units.specs.Units.{rounded}
use Rattle.flags.specs.Table.{FlagTable, entry, priced, in_use}
use Rattle.layout.specs.Places.{most_components}
use Rattle.layout.specs.declared.Component.{Component}
use Rattle.fund.specs.Fund.{cash_in_range}
use Rattle.layout.specs.Day.{Day}
use Rattle.rules.specs.Lines.{component_of, price_of}
use Rattle.rules.specs.Sound.{most_price}

-- what a component adds to the sum, by a flag table
unfoldable pub worth : FlagTable → Component → ℕ → ℕ
worth t c price = cond (entry t c.flag priced) (c.quantity * price) c.amount.0

-- a priced component with a quantity above 0 has no price
unfoldable pub lacks : FlagTable → Component → ℕ → Bool
lacks t c price = every (entry t c.flag priced ∷ ltb 0 c.quantity ∷ eqb price 0 ∷ [])

-- the answer from the sum before what the estimated cash takes from it
unfoldable pub value_from : ℕ → ℕ → ℕ → Reply
value_from before taken size =
    cond (every (leb taken before ∷ leb (rounded (10 * (before - taken)) size) 9_999_999 ∷ []))
    (reply 0 0 (rounded (10 * (before - taken)) size))
    (reply 14 0 0)

-- a component, whose flag is in use, and its price in their ranges
pub record Countable (t : FlagTable) (c : Component) (price : ℕ) : Type 0 where
  pub used : entry t c.flag in_use ≡ true
  pub quantity : c.quantity ≤ 99_999_999
  pub amount : c.amount.0 ≤ 99_999_999_999
  pub cost : price ≤ most_price

-- a day and prices with all that the reference value looks at in its range
pub record Priceable (d : Day) (ps : List ℕ) : Type 0 where
  pub count : d.count ≤ most_components
  pub prices_size : length ps ≡ d.count
  pub size_low : 1 ≤ d.fund.basket_size
  pub size_high : d.fund.basket_size ≤ 99_999_999
  pub cash : cash_in_range d.fund.estimated_cash ≡ true
  pub countable : (k : ℕ) → k < d.count → Countable d.table (component_of d k) (price_of ps k)
