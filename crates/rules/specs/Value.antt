-- The reference value, in ten-thousandths of a yuan a unit.
use Rattle.std.specs.Prelude.{ℕ, suc, ◌+◌, ◌-◌, ◌*◌, Bool, cond, not, List, [], ◌∷◌, leb, ltb, eqb, ℤ, pos, negsuc}
use Rattle.sequences.specs.Below.{sum_below, any_below}
use Rattle.sequences.specs.Every.{every}
use Rattle.sequences.specs.Checks.{Check, check, Reply, answered}
use Rattle.units.specs.Units.{rounded}
use Rattle.layout.specs.Day.{Day}
use Rattle.rules.specs.Lines.{quantity, is_priced, creation_amount, price_of}
use Rattle.rules.specs.Sound.{on_sound_day}

-- Q times price over priced flags, P over the others
unfoldable pub worth_at : Day → List ℕ → ℕ → ℕ
worth_at d ps i = cond (is_priced d i) (quantity d i * price_of ps i) (creation_amount d i)

-- a priced component with Q above 0 has no price
unfoldable pub lacks_price : Day → List ℕ → ℕ → Bool
lacks_price d ps i = every (is_priced d i ∷ ltb 0 (quantity d i) ∷ eqb (price_of ps i) 0 ∷ [])

-- 10 times E, which is hundredths of a yuan, as what it adds to the sum and what it takes from it
unfoldable pub cash_added : ℤ → ℕ
cash_added (pos e) = 10 * e
cash_added (negsuc e) = 0

unfoldable pub cash_taken : ℤ → ℕ
cash_taken (pos e) = 0
cash_taken (negsuc e) = 10 * suc e

-- the sum before what E takes from it
unfoldable pub worth_before : Day → List ℕ → ℕ
worth_before d ps = sum_below (worth_at d ps) d.count + cash_added d.fund.estimated_cash

-- the sum times 10, divided by U, rounded
unfoldable pub reference_value : Day → List ℕ → ℕ
reference_value d ps = rounded (10 * (worth_before d ps - cash_taken d.fund.estimated_cash)) d.fund.basket_size

-- it exists unless a price is missing, the sum is negative, or the value is above 9,999,999
unfoldable pub has_value : Day → List ℕ → Bool
has_value d ps =
    every
    (not (any_below (lacks_price d ps) d.count)
    ∷ leb (cash_taken d.fund.estimated_cash) (worth_before d ps)
    ∷ leb (reference_value d ps) 9_999_999
    ∷ [])

unfoldable pub value_checks : Day → List ℕ → List Check
value_checks d ps = check (not (has_value d ps)) 14 0 ∷ []

unfoldable pub value_reply : Day → List ℕ → List ℕ → Reply
value_reply d b ps = answered (on_sound_day d b ps (value_checks d ps)) (reference_value d ps)
