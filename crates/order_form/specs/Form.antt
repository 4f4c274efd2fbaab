-- The first two stages of an order, 8 and 11, 12 and 13: the units that the limits look at, and the tests.
use Rattle.std.specs.Prelude.{ℕ, ◌+◌, ◌-◌, ◌*◌, ◌≤◌, ◌<◌, ◌≡◌, Bool, ◌&&◌, List, ◌++◌, length}
use Rattle.sequences.specs.Checks.{Check}
use Rattle.layout.specs.Places.{most_components}
use Rattle.layout.specs.Day.{Day}
use Rattle.layout.specs.Book.{width, created, redeemed, head_total}
use Rattle.fund.specs.Fund.{ceiling}
use Rattle.rules.specs.declared.Kind.{Kind}
use Rattle.rules.specs.declared.Ask.{Ask}
use Rattle.rules.specs.Orders.{opposite_kind, limit_for, within_limit, count_of, fund_count, form_checks, permission_checks}
use Rattle.order_form.specs.declared.Units.{Units}

-- the units counted of a kind and of the other kind: of all accounts, and of one
unfoldable pub all_units : Day → List ℕ → Kind → Units
all_units d b kind = record { made = fund_count d b kind; reverse = fund_count d b (opposite_kind kind) }

unfoldable pub own_units : Day → List ℕ → ℕ → Kind → Units
own_units d b a kind = record { made = count_of d b kind a; reverse = count_of d b (opposite_kind kind) a }

-- after an order's units they pass neither a limit on them nor one on their net
unfoldable pub within_both : Day → Units → Ask → ℕ → ℕ → Bool
within_both d c ask limit net =
    within_limit (limit_for d limit ask.kind) (c.made + ask.units) && within_limit (limit_for d net ask.kind) (c.made + ask.units - c.reverse)

-- the tests of both stages
unfoldable pub order_form : Day → List ℕ → Ask → List Check
order_form d b ask = form_checks d ask.account ask.units ++ permission_checks d b ask.kind ask.account ask.units

-- what they ask of the day and the book; a sound day gives it
pub record Countable (d : Day) (b : List ℕ) : Type 0 where
  pub accounts_low : 2 ≤ d.accounts
  pub accounts_high : d.accounts ≤ 64
  pub count_high : d.count ≤ most_components
  pub size : length b ≡ d.accounts * width d
  pub basket_low : 0 < d.fund.basket_size
  pub basket_high : d.fund.basket_size ≤ 99_999_999
  pub created_most : head_total d b created ≤ ceiling
  pub redeemed_most : head_total d b redeemed ≤ ceiling
