-- The tests of refusal 5 as the code makes them: of numbers, of the totals t of a book's places, and of the book's first stretch, the fund's.
use Rattle.std.specs.Prelude.{Bool, cond, List, [], ◌∷◌, ℕ, ◌+◌, ◌-◌, leb, ltb, eqb, get_or}
use Rattle.sequences.specs.Below.{all_below}
use Rattle.sequences.specs.Every.{every}
use Rattle.fund.specs.Fund.{ceiling}
use Rattle.layout.specs.Book.{cash, created, redeemed, line_from}
use Rattle.rules.specs.Lines.{price_of}
use Rattle.rules.specs.Opening.{most_of_line, most_cash}
use Rattle.rules.specs.Sound.{most_units, most_price}

-- the most that line l of n components may total; line n is the unit
unfoldable pub most_of : ℕ → ℕ → ℕ
most_of n l = cond (ltb l n) most_of_line most_units

-- the total of line l: its three lots
abbrev pub line_of : (ℕ → ℕ) → ℕ → ℕ
line_of t l = t (line_from l) + t (line_from l + 1) + t (line_from l + 2)

unfoldable pub line_fits : ℕ → (ℕ → ℕ) → ℕ → Bool
line_fits n t l = leb (line_of t l) (most_of n l)

unfoldable pub totals_fit : ℕ → (ℕ → ℕ) → Bool
totals_fit n t =
    every
    (leb (t cash) most_cash
    ∷ leb (t created) ceiling
    ∷ leb (t redeemed) ceiling
    ∷ all_below (line_fits n t) (n + 1)
    ∷ [])

-- bought and got of line l of the fund
unfoldable pub line_still : List ℕ → ℕ → Bool
line_still b l = every (eqb (get_or b (line_from l + 1) 0) 0 ∷ eqb (get_or b (line_from l + 2) 0) 0 ∷ [])

-- the fund's counters, its units, and its bought and got lots are 0
unfoldable pub stretch_still : ℕ → List ℕ → Bool
stretch_still n b =
    every
    (eqb (get_or b created 0) 0
    ∷ eqb (get_or b redeemed 0) 0
    ∷ eqb (get_or b (line_from n) 0) 0
    ∷ all_below (line_still b) (n + 1)
    ∷ [])

unfoldable pub price_fits : List ℕ → ℕ → Bool
price_fits prices i = leb (price_of prices i) most_price

-- there is room for all the units that the ceiling still lets be created
unfoldable pub room_left : ℕ → (ℕ → ℕ) → Bool
room_left n t = leb (line_of t n + (ceiling - t created)) most_units
