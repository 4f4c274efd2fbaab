-- The records of an order, and the lent list that takes them.
use Rattle.std.specs.Prelude.{ℕ, ◌+◌, ◌*◌, ◌/◌, ◌%◌, cond, List, [], ◌∷◌, ◌++◌, map, ltb, eqb, Result, Ok, Err}
use Rattle.sequences.specs.Below.{join_below}
use Rattle.units.specs.Units.{split_size}
use Rattle.layout.specs.Places.{most_components}
use Rattle.layout.specs.Day.{Day}
use Rattle.layout.specs.declared.Record.{Record}
use Rattle.rules.specs.declared.Side.{Side}
use Rattle.rules.specs.declared.Side.TheVariants.{B, S}
use Rattle.rules.specs.Lines.{code_of}

-- sides B and S
abbrev pub side_b : ℕ
side_b = 1

abbrev pub side_s : ℕ
side_s = 2

abbrev pub side_number : Side → ℕ
side_number B = side_b
side_number S = side_s

-- the side of a number, where it is a side's
abbrev pub side_at : ℕ → Result Side ℕ
side_at number = cond (eqb number side_b) (Ok B) (cond (eqb number side_s) (Ok S) (Err number))

-- code, side, quantity and price; the amount is quantity times price
abbrev pub record_of : ℕ → ℕ → ℕ → ℕ → Record
record_of code side q price =
    record { code = code; side = side; quantity = q; price = record { 0 = price }; amount = record { 0 = q * price } }

-- cash c as quantities and prices: none at 0; below the split size one record; else two, the second with the remainder
-- even if 0
unfoldable pub cash_parts : ℕ → List (ℕ × ℕ)
cash_parts c =
    cond (eqb c 0) []
    (cond (ltb c split_size) ((1, c) ∷ [])
    ((split_size, c / split_size) ∷ (1, c % split_size) ∷ []))

unfoldable pub cash_records : ℕ → ℕ → ℕ → List Record
cash_records code side c = map (λ part. record_of code side part.0 part.1) (cash_parts c)

-- a component of which stock moved
unfoldable pub stock_record : Day → ℕ → (ℕ → ℕ) → ℕ → List Record
stock_record d side moved i = cond (ltb 0 (moved i)) (record_of (code_of d i) side (moved i) 0 ∷ []) []

-- the codes of a fund's group, as steps from its first, g, which is the unit's
abbrev pub second_unit : ℕ
second_unit = 1

abbrev pub shanghai_step : ℕ
shanghai_step = 2

abbrev pub other_step : ℕ
other_step = 5

-- the most records of an order beside stock: two of units, and two for each of the two kinds of cash
abbrev pub beside_stock : ℕ
beside_stock = 6

-- the most records of an order: one for each component, and those beside stock
abbrev pub most_records : ℕ
most_records = most_components + beside_stock

-- in order: unit (g); each component with stock moved; other cash (g+5); Shanghai cash (g+2); unit (g+1).
-- Stock is on one side and the rest on the other.
unfoldable pub order_records : Day → ℕ → ℕ → ℕ → (ℕ → ℕ) → ℕ → ℕ → List Record
order_records d stock_side rest_side units moved other shanghai =
    record_of d.fund.first_code rest_side units 0
    ∷ (join_below (stock_record d stock_side moved) d.count
    ++ (cash_records (d.fund.first_code + other_step) rest_side other
    ++ (cash_records (d.fund.first_code + shanghai_step) rest_side shanghai
    ++ (record_of (d.fund.first_code + second_unit) rest_side units 0 ∷ []))))
