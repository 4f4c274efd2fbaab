-- Refusal 5: a day that breaks a test of opening, or has a price, a counter or a fund's lot that no day can have.
use Rattle.std.specs.Prelude.{ℕ, ◌+◌, ◌-◌, Bool, not, List, [], ◌∷◌, leb, eqb, length}
use Rattle.sequences.specs.Below.{all_below}
use Rattle.sequences.specs.Every.{every}
use Rattle.sequences.specs.Checks.{Check, check, passes}
use Rattle.fund.specs.Fund.{ceiling}
use Rattle.layout.specs.Day.{Day}
use Rattle.layout.specs.Book.{cash, created, redeemed, head_at, lots_at, account, head_total, line_total}
use Rattle.rules.specs.Lines.{price_of}
use Rattle.rules.specs.Opening.{day_sizes_fit, DayTotals, day_checks}

-- units may total more than at opening
abbrev pub most_units : ℕ
most_units = 2_000_000_000_000_000_000

abbrev pub most_price : ℕ
most_price = 9_999_999

-- the totals that the tests of opening look at
abbrev pub day_totals : Day → List ℕ → DayTotals
day_totals d b =
    record {
      line = line_total d b;
      units_most = most_units;
      fund_units = (lots_at (account d b 0) d.count).old;
      cash_total = head_total d b cash;
    }

-- the day passes the tests of opening (units: 2 times 10^18)
unfoldable pub opens : Day → List ℕ → List ℕ → Bool
opens d b ps =
    passes (day_checks (day_sizes_fit d.accounts d.count (length b) (length ps)) d.table d.fund d.components d.count (day_totals d b))

-- the fund's counters are 0, and it has nothing in bought or got
unfoldable pub fund_still : Day → List ℕ → Bool
fund_still d b =
    every
    (eqb (head_at (account d b 0) created) 0
    ∷ eqb (head_at (account d b 0) redeemed) 0
    ∷ all_below (λ l. eqb (lots_at (account d b 0) l).bought 0) (d.count + 1)
    ∷ all_below (λ l. eqb (lots_at (account d b 0) l).got 0) (d.count + 1)
    ∷ [])

unfoldable pub is_sound : Day → List ℕ → List ℕ → Bool
is_sound d b ps =
    every
    (opens d b ps
    ∷ all_below (λ i. leb (price_of ps i) most_price) d.count
    ∷ leb (head_total d b created) ceiling
    ∷ leb (head_total d b redeemed) ceiling
    ∷ fund_still d b
    ∷ [])

-- the tests of a later call: 5 first
abbrev pub on_sound_day : Day → List ℕ → List ℕ → List Check → List Check
on_sound_day d b ps checks = check (not (is_sound d b ps)) 5 0 ∷ checks

-- the property that every call keeps: sound, with room for all the units that the ceiling still lets be created.
-- A sound day without that room accepts a creation and is then not sound; no opening leads to one.
unfoldable pub is_kept : Day → List ℕ → List ℕ → Bool
is_kept d b ps =
    every (is_sound d b ps ∷ leb (line_total d b d.count + (ceiling - head_total d b created)) most_units ∷ [])
