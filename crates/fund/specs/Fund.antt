-- The fund's fields and refusal 2: a fund field out of range.
use Rattle.std.specs.Prelude.{ℕ, ◌+◌, ◌*◌, ◌%◌, Bool, List, [], ◌∷◌, leb, ltb, eqb, ℤ, pos, negsuc, get_or}
use Rattle.sequences.specs.Below.{all_below}
use Rattle.sequences.specs.Every.{every, inside}
use Rattle.layout.specs.declared.Fund.{Fund}
use Rattle.layout.specs.Places.{limit_count}
use Rattle.fund.specs.declared.Limit.{Limit}
use Rattle.fund.specs.declared.Limit.TheVariants.{Cumulative, CumulativeEach, Net, NetEach}

-- the ceiling on limits and on fund-wide created and redeemed units
abbrev pub ceiling : ℕ
ceiling = 999_999_999_999

-- estimated cash, -999,999,999 to 9,999,999,999 hundredths of a yuan
unfoldable pub cash_in_range : ℤ → Bool
cash_in_range (pos e) = leb e 9_999_999_999
cash_in_range (negsuc e) = ltb e 999_999_999

-- a limit: 0 is no limit, else a multiple of the basket size
unfoldable pub limit_in_range : ℕ → ℕ → Bool
limit_in_range size limit = every (leb limit ceiling ∷ eqb (limit % size) 0 ∷ [])

-- the eight limits
unfoldable pub limits_in_range : ℕ → List ℕ → Bool
limits_in_range size limits = all_below (λ k. limit_in_range size (get_or limits k 0)) limit_count

-- refusal 2 looks at all of these
unfoldable pub fund_in_range : Fund → Bool
fund_in_range f =
    every
    (leb f.first_code 999_994
    ∷ inside 1 99_999_999 f.basket_size
    ∷ leb f.max_cash_ratio.0 100_000
    ∷ leb f.switch 3
    ∷ cash_in_range f.estimated_cash
    ∷ limits_in_range f.basket_size f.limits
    ∷ [])

-- the four limits on a kind of order: cumulative for the fund, cumulative per account, net for the fund, net per account
abbrev pub cumulative_limit : ℕ
cumulative_limit = 0

abbrev pub cumulative_limit_each : ℕ
cumulative_limit_each = 1

abbrev pub net_limit : ℕ
net_limit = 2

abbrev pub net_limit_each : ℕ
net_limit_each = 3

abbrev pub limit_number : Limit → ℕ
limit_number Cumulative = cumulative_limit
limit_number CumulativeEach = cumulative_limit_each
limit_number Net = net_limit
limit_number NetEach = net_limit_each

-- they stand in the list text's order, of creation and of redemption by turns
unfoldable pub limit_of : Fund → ℕ → ℕ → ℕ
limit_of f limit kind = get_or f.limits (2 * limit + kind) 0
