-- Refusal 3, the answer of opening and refusal 5 as they were before a day held a table: flags 0 to 4, columns by document 01's five
-- rows, and no table to test.
use Rattle.std.specs.Prelude.{ℕ, ◌+◌, ◌*◌, Bool, not, List, [], ◌∷◌, ◌++◌, leb, ltb, eqb, length, get_or}
use Rattle.sequences.specs.Below.{all_below, first_below}
use Rattle.sequences.specs.Every.{every}
use Rattle.sequences.specs.Checks.{Check, check, Reply, answered, passes}
use Rattle.flags.specs.Table.{rate_used, amount_used}
use Rattle.layout.specs.declared.Component.{Component}
use Rattle.layout.specs.declared.Fund.{Fund}
use Rattle.layout.specs.Components.{blank}
use Rattle.layout.specs.Places.{component_width, day_width}
use Rattle.layout.specs.Book.{created, redeemed, head_total}
use Rattle.layout.specs.Day.{Day}
use Rattle.fund.specs.Fund.{ceiling, fund_in_range}
use Rattle.fund.specs.Components.{outside_group, used_within, most_rate, most_amount, above_code, code_before}
use Rattle.rules.specs.Lines.{price_of}
use Rattle.rules.specs.Opening.{Opening, day_sizes_fit, size_checks, total_checks, DayTotals, components_opened, opened_totals}
use Rattle.rules.specs.Sound.{most_price, day_totals, fund_still}
use Rattle.five_flags.specs.Rows.{five_flags, five_entry}

-- ---- 3
unfoldable pub component_in_range : ℕ → Component → Bool
component_in_range g c =
    every
    (leb c.code 999_999
    ∷ outside_group g c.code
    ∷ leb c.quantity 99_999_999
    ∷ ltb c.flag five_flags
    ∷ used_within most_rate (five_entry c.flag rate_used) c.premium.0
    ∷ used_within most_rate (five_entry c.flag rate_used) c.discount.0
    ∷ used_within most_amount (five_entry c.flag amount_used) c.amount.0
    ∷ [])

unfoldable pub fault_at : ℕ → List Component → ℕ → Bool
fault_at g cs i =
    not (every (component_in_range g (get_or cs i blank) ∷ above_code (code_before cs i) (get_or cs i blank).code ∷ []))

unfoldable pub component_fault : ℕ → List Component → ℕ → ℕ
component_fault g cs n = first_below (fault_at g cs) n

-- ---- opening, and 5, which makes its tests again
unfoldable pub day_checks : Bool → Fund → List Component → ℕ → DayTotals → List Check
day_checks fit fund components n totals =
    size_checks fit
    ++ (check (not (fund_in_range fund)) 2 0
    ∷ check (ltb (component_fault fund.first_code components n) n) 3 (component_fault fund.first_code components n)
    ∷ total_checks n totals)

-- what is lent to opening fits, without a run of a table
unfoldable pub sizes_fit : Opening → Bool
sizes_fit o =
    every
    (day_sizes_fit o.accounts o.count (length o.book) (length o.prices)
    ∷ eqb (length o.components) (component_width * o.count)
    ∷ eqb (length o.holdings) (o.accounts * (o.count + 2))
    ∷ eqb (length o.day) day_width
    ∷ [])

unfoldable pub opening_reply : Opening → Reply
opening_reply o = answered (day_checks (sizes_fit o) o.fund (components_opened o) o.count (opened_totals o)) 0

unfoldable pub opens : Day → List ℕ → List ℕ → Bool
opens d b ps =
    passes (day_checks (day_sizes_fit d.accounts d.count (length b) (length ps)) d.fund d.components d.count (day_totals d b))

unfoldable pub is_sound : Day → List ℕ → List ℕ → Bool
is_sound d b ps =
    every
    (opens d b ps
    ∷ all_below (λ i. leb (price_of ps i) most_price) d.count
    ∷ leb (head_total d b created) ceiling
    ∷ leb (head_total d b redeemed) ceiling
    ∷ fund_still d b
    ∷ [])
