-- What creation and redemption share: baskets, the switch, the limits, cash by market, and the two sides of the move.
use Rattle.std.specs.Prelude.{ℕ, ◌+◌, ◌-◌, ◌*◌, ◌/◌, ◌%◌, Bool, cond, not, ◌||◌, List, [], ◌∷◌, leb, eqb}
use Rattle.sequences.specs.Below.{sum_below}
use Rattle.sequences.specs.Every.{every, inside}
use Rattle.sequences.specs.Checks.{Check, check}
use Rattle.lots.specs.declared.Lots.{Lots}
use Rattle.fund.specs.Fund.{ceiling, limit_of, cumulative_limit, cumulative_limit_each, net_limit, net_limit_each}
use Rattle.layout.specs.Day.{Day}
use Rattle.layout.specs.Book.{cash, head_at, put_head, on_line, each_line, account, head_total, counter}
use Rattle.rules.specs.declared.Kind.{Kind}
use Rattle.rules.specs.declared.Kind.TheVariants.{Creation, Redemption}
use Rattle.rules.specs.Lines.{quantity, is_shanghai}
use Rattle.rules.specs.Trade.{is_investor}

-- the number of a kind of order, as limits and counters are laid out
abbrev pub number_of : Kind → ℕ
number_of Creation = 0
number_of Redemption = 1

-- the kind of an order that is asked by a number: every number other than 0 is a redemption's
abbrev pub kind_at : ℕ → Kind
kind_at number = cond (eqb number 0) Creation Redemption

-- the other kind
abbrev pub opposite_kind : Kind → Kind
opposite_kind Creation = Redemption
opposite_kind Redemption = Creation

-- M, the count of baskets in an order for so many units
unfoldable pub baskets : Day → ℕ → ℕ
baskets d units = units / d.fund.basket_size

-- the most baskets of one order
abbrev pub most_baskets : ℕ
most_baskets = 20

-- units are M times U for a whole M from 1 to the most
unfoldable pub whole_baskets : ℕ → Day → ℕ → Bool
whole_baskets most d units = every (eqb (units % d.fund.basket_size) 0 ∷ inside 1 most (baskets d units) ∷ [])

-- the first stage, to 11
unfoldable pub form_checks : Day → ℕ → ℕ → List Check
form_checks d a units =
    check (not (is_investor d.accounts a)) 8 0
    ∷ check (not (whole_baskets most_baskets d units)) 11 0
    ∷ []

-- the switch: 0 neither, 1 both, 2 creation only, 3 redemption only
unfoldable pub switch_allows : Day → Kind → Bool
switch_allows d kind = eqb d.fund.switch 1 || eqb d.fund.switch (2 + number_of kind)

-- 0 is no limit; a limit is passed by more than it
unfoldable pub within_limit : ℕ → ℕ → Bool
within_limit limit units = eqb limit 0 || leb units limit

-- units created (or redeemed) by an account, and fund-wide
unfoldable pub count_of : Day → List ℕ → Kind → ℕ → ℕ
count_of d b kind a = head_at (account d b a) (counter (number_of kind))

unfoldable pub fund_count : Day → List ℕ → Kind → ℕ
fund_count d b kind = head_total d b (counter (number_of kind))

-- one of the fund's limits on orders of a kind
abbrev pub limit_for : Day → ℕ → Kind → ℕ
limit_for d limit kind = limit_of d.fund limit (number_of kind)

-- cumulative and net, for the fund and for the account, after this order; a negative net passes no limit.
-- The ceiling holds with no limit set.
unfoldable pub within_limits : Day → List ℕ → Kind → ℕ → ℕ → Bool
within_limits d b kind a units =
    every
    (within_limit (limit_for d cumulative_limit kind) (fund_count d b kind + units)
    ∷ within_limit (limit_for d cumulative_limit_each kind) (count_of d b kind a + units)
    ∷ within_limit (limit_for d net_limit kind) (fund_count d b kind + units - fund_count d b (opposite_kind kind))
    ∷ within_limit (limit_for d net_limit_each kind) (count_of d b kind a + units - count_of d b (opposite_kind kind) a)
    ∷ leb (fund_count d b kind + units) ceiling
    ∷ [])

-- the second stage, to 13
unfoldable pub permission_checks : Day → List ℕ → Kind → ℕ → ℕ → List Check
permission_checks d b kind a units =
    check (not (switch_allows d kind)) 12 0
    ∷ check (not (within_limits d b kind a units)) 13 0
    ∷ []

-- what m baskets need of component i
unfoldable pub need : Day → ℕ → ℕ → ℕ
need d m i = m * quantity d i

-- the cash of all components, by market
unfoldable pub shanghai_cash : Day → (ℕ → ℕ) → ℕ
shanghai_cash d cash_of = sum_below (λ i. cond (is_shanghai d i) (cash_of i) 0) d.count

unfoldable pub other_cash : Day → (ℕ → ℕ) → ℕ
other_cash d cash_of = sum_below (λ i. cond (is_shanghai d i) 0 (cash_of i)) d.count

-- the account's stretch after an order: each component's lots by f, the unit's by g, cash c, and its count raised
unfoldable pub account_side : ℕ → Kind → ℕ → (ℕ → Lots → Lots) → (Lots → Lots) → ℕ → List ℕ → List ℕ
account_side n kind units f g c s =
    put_head (counter (number_of kind)) (head_at s (counter (number_of kind)) + units) (put_head cash c (on_line g n (each_line f n s)))

-- the fund's stretch: each component's lots by f, and cash c
unfoldable pub fund_side : ℕ → (ℕ → Lots → Lots) → ℕ → List ℕ → List ℕ
fund_side n f c s = put_head cash c (each_line f n s)
