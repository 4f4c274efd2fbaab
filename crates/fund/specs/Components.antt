-- The components and refusal 3: a component out of range, order or flag use, with its place.
use Rattle.std.specs.Prelude.{ℕ, zero, suc, ◌+◌, Bool, true, not, ◌||◌, Option, Some, None, List, [], ◌∷◌, leb, ltb, eqb, get_or}
use Rattle.sequences.specs.Below.{first_below}
use Rattle.sequences.specs.Every.{every}
use Rattle.flags.specs.Table.{FlagTable, entry, rate_used, amount_used, in_use}
use Rattle.layout.specs.declared.Component.{Component}
use Rattle.layout.specs.Components.{blank}

-- outside the fund's group of codes, g to g + 5
unfoldable pub outside_group : ℕ → ℕ → Bool
outside_group g code = ltb code g || ltb (g + 5) code

-- an unused rate or amount is 0
unfoldable pub zero_unless : Bool → ℕ → Bool
zero_unless used x = used || eqb x 0

-- a rate or an amount: at most so much, and 0 where the flag does not use it
unfoldable pub used_within : ℕ → Bool → ℕ → Bool
used_within most used x = every (leb x most ∷ zero_unless used x ∷ [])

-- the most that either rate may be, and an amount
abbrev pub most_rate : ℕ
most_rate = 100_000

abbrev pub most_amount : ℕ
most_amount = 99_999_999_999

-- a component's own ranges and flag use by the table t, in a fund with the first code g
unfoldable pub component_in_range : FlagTable → ℕ → Component → Bool
component_in_range t g c =
    every
    (leb c.code 999_999
    ∷ outside_group g c.code
    ∷ leb c.quantity 99_999_999
    ∷ entry t c.flag in_use
    ∷ used_within most_rate (entry t c.flag rate_used) c.premium.0
    ∷ used_within most_rate (entry t c.flag rate_used) c.discount.0
    ∷ used_within most_amount (entry t c.flag amount_used) c.amount.0
    ∷ [])

-- above the code before it, where there is one
unfoldable pub above_code : Option ℕ → ℕ → Bool
above_code None code = true
above_code (Some previous) code = ltb previous code

-- the component c behind one with the code previous: in its ranges and, unless it is the first, above that code (codes rise strictly)
unfoldable pub fits : FlagTable → ℕ → Option ℕ → Component → Bool
fits t g previous c = every (component_in_range t g c ∷ above_code previous c.code ∷ [])

-- the code before the i-th; none before the first
unfoldable pub code_before : List Component → ℕ → Option ℕ
code_before cs zero = None
code_before cs (suc i) = Some (get_or cs i blank).code

-- refusal 3 at the i-th component
unfoldable pub fault_at : FlagTable → ℕ → List Component → ℕ → Bool
fault_at t g cs i = not (fits t g (code_before cs i) (get_or cs i blank))

-- the first component at fault of the first n, n where there is none
unfoldable pub component_fault : FlagTable → ℕ → List Component → ℕ → ℕ
component_fault t g cs n = first_below (fault_at t g cs) n
