-- Units of count: money is thousandths of a yuan, a rate hundred-thousandths, the reference value ten-thousandths of a yuan.
use Rattle.std.specs.Prelude.{ℕ, ◌+◌, ◌-◌, ◌*◌, ◌/◌}

-- the rate one
abbrev pub rate_one : ℕ
rate_one = 100_000

-- the split size, 1,000 yuan
abbrev pub split_size : ℕ
split_size = 1_000_000

-- "rounded": x / d to the nearest whole, halves up
unfoldable pub rounded : ℕ → ℕ → ℕ
rounded x d = (2 * x + d) / (2 * d)

-- an amount v with the premium rate r on it
unfoldable pub premium : ℕ → ℕ → ℕ
premium v r = rounded (v * (rate_one + r)) rate_one

-- an amount v less the discount rate r
unfoldable pub discount : ℕ → ℕ → ℕ
discount v r = rounded (v * (rate_one - r)) rate_one

-- the most cash that may stand for missing stock: m baskets of u units at a reference value and a maximum cash ratio x.
-- The units of count make it thousandths of a yuan; a whole sum is at most the quotient where it is at most its whole part.
unfoldable pub ratio_bound : ℕ → ℕ → ℕ → ℕ → ℕ
ratio_bound m u value x = m * u * value * x / 1_000_000
