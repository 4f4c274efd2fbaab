-- Creation of M baskets.
use Rattle.std.specs.Prelude.{ℕ, ◌+◌, ◌-◌, ◌*◌, min, Bool, cond, not, ◌&&◌, List, [], ◌∷◌, ◌++◌, ltb}
use Rattle.sequences.specs.Below.{sum_below, any_below, first_below}
use Rattle.sequences.specs.Every.{every}
use Rattle.sequences.specs.Checks.{Check, check, Reply, answering}
use Rattle.sequences.specs.Stretch.{on_stretch}
use Rattle.units.specs.Units.{premium, ratio_bound}
use Rattle.lots.specs.Lots.{hand_in_of, get_of, take_in_of, handable}
use Rattle.layout.specs.Day.{Day}
use Rattle.layout.specs.declared.Record.{Record}
use Rattle.layout.specs.declared.Report.{Report}
use Rattle.rules.specs.declared.Kind.TheVariants.{Creation}
use Rattle.rules.specs.declared.Rooms.{Rooms}
use Rattle.rules.specs.declared.Counts.{Counts}
use Rattle.rules.specs.Replies.{made_reply, if_accepted}
use Rattle.layout.specs.Book.{cash, head_at, lots_at, width, account}
use Rattle.rules.specs.Lines.{moves_stock, cash_for_shortage, creation_rate, creation_amount, price_of}
use Rattle.rules.specs.Sound.{on_sound_day}
use Rattle.rules.specs.Value.{reference_value, has_value}
use Rattle.rules.specs.Orders.{baskets, form_checks, permission_checks, need, shanghai_cash, other_cash, account_side, fund_side}
use Rattle.rules.specs.Records.{side_b, side_s, order_records}
use Rattle.rules.specs.Reports.{order_reports}
use Rattle.rules.specs.Lent.{Lent, rooms_in, counts_of, too_short, with_order}

-- what an account, with the stretch s, has of component i to hand in
unfoldable pub available : List ℕ → ℕ → ℕ
available s i = handable (lots_at s i)

-- what is there is handed in
unfoldable pub handed_in : Day → List ℕ → ℕ → ℕ → ℕ
handed_in d s m i = cond (moves_stock d i) (min (need d m i) (available s i)) 0

-- short of stock for which no cash may stand
unfoldable pub is_short : Day → List ℕ → ℕ → ℕ → Bool
is_short d s m i = every (moves_stock d i ∷ not (cash_for_shortage d i) ∷ ltb (available s i) (need d m i) ∷ [])

-- the first component short, N where none is
unfoldable pub first_short : Day → List ℕ → ℕ → ℕ
first_short d s m = first_below (is_short d s m) d.count

-- where cash may stand for it: missing, and v = missing times price
unfoldable pub missing : Day → List ℕ → ℕ → ℕ → ℕ
missing d s m i = cond (cash_for_shortage d i) (need d m i - available s i) 0

unfoldable pub missing_worth : Day → List ℕ → List ℕ → ℕ → ℕ → ℕ
missing_worth d s ps m i = missing d s m i * price_of ps i

-- anything is missing for which cash may stand
unfoldable pub is_missing : Day → List ℕ → ℕ → Bool
is_missing d s m = any_below (λ i. ltb 0 (missing d s m i)) d.count

-- the cash of component i: v, or M times P where no stock moves, with the premium
unfoldable pub creation_cash : Day → List ℕ → List ℕ → ℕ → ℕ → ℕ
creation_cash d s ps m i =
    premium (cond (moves_stock d i) (missing_worth d s ps m i) (m * creation_amount d i)) (creation_rate d i)

-- the cash due
unfoldable pub creation_due : Day → List ℕ → List ℕ → ℕ → ℕ
creation_due d s ps m = other_cash d (creation_cash d s ps m) + shanghai_cash d (creation_cash d s ps m)

-- the sum of all v is above the ratio's bound
unfoldable pub ratio_passed : Day → List ℕ → List ℕ → ℕ → Bool
ratio_passed d s ps m =
    ltb (ratio_bound m d.fund.basket_size (reference_value d ps) d.fund.max_cash_ratio.0)
    (sum_below (missing_worth d s ps m) d.count)

-- stock is S, the rest B
unfoldable pub creation_records : Day → List ℕ → List ℕ → ℕ → List Record
creation_records d s ps units =
    order_records d side_s side_b units
    (handed_in d s (baskets d units))
    (other_cash d (creation_cash d s ps (baskets d units)))
    (shanghai_cash d (creation_cash d s ps (baskets d units)))

-- the investor's reports: stock is on side 2, the rest on side 1
unfoldable pub creation_reports : Day → List ℕ → List ℕ → ℕ → List Report
creation_reports d s ps units =
    order_reports d side_s side_b units
    (handed_in d s (baskets d units))
    (other_cash d (creation_cash d s ps (baskets d units)))
    (shanghai_cash d (creation_cash d s ps (baskets d units)))

abbrev pub creation_counts : Day → List ℕ → List ℕ → ℕ → Counts
creation_counts d s ps units = counts_of (creation_records d s ps units) (creation_reports d s ps units)

-- the third stage; the rooms are how many records and reports the lent lists take
unfoldable pub creation_means : Day → List ℕ → List ℕ → ℕ → Rooms → List Check
creation_means d s ps units rooms =
    check (ltb (first_short d s (baskets d units)) d.count) 9 (first_short d s (baskets d units))
    ∷ check (is_missing d s (baskets d units) && not (has_value d ps)) 14 0
    ∷ check (is_missing d s (baskets d units) && ratio_passed d s ps (baskets d units)) 15 0
    ∷ check (ltb (head_at s cash) (creation_due d s ps (baskets d units))) 10 0
    ∷ check (too_short rooms (creation_counts d s ps units)) 16 0
    ∷ []

unfoldable pub creation_checks : Day → List ℕ → List ℕ → ℕ → ℕ → Rooms → List Check
creation_checks d b ps a units rooms =
    form_checks d a units ++ (permission_checks d b Creation a units ++ creation_means d (account d b a) ps units rooms)

unfoldable pub creation_reply : Day → List ℕ → List ℕ → ℕ → ℕ → Rooms → Reply
creation_reply d b ps a units rooms =
    answering (on_sound_day d b ps (creation_checks d b ps a units rooms)) (made_reply (creation_counts d (account d b a) ps units))

-- stock and cash go to the fund, and the account gets the units
unfoldable pub creation_moves : Day → List ℕ → ℕ → ℕ → List ℕ → List ℕ
creation_moves d ps a units b =
    on_stretch (width d) a
    (λ s. account_side d.count Creation units (λ i x. hand_in_of x (handed_in d (account d b a) (baskets d units) i)) (λ x. get_of x units)
    (head_at s cash - creation_due d (account d b a) ps (baskets d units)) s)
    (on_stretch (width d) 0
    (λ f. fund_side d.count (λ i x. take_in_of x (handed_in d (account d b a) (baskets d units) i)) (head_at f cash + creation_due d (account d b a) ps (baskets d units)) f)
    b)

unfoldable pub created_book : Day → List ℕ → List ℕ → ℕ → ℕ → Rooms → List ℕ
created_book d b ps a units rooms = if_accepted (creation_reply d b ps a units rooms) (creation_moves d ps a units b) b

-- the three lists
unfoldable pub created_lists : Day → List ℕ → List ℕ → ℕ → ℕ → Lent → Lent
created_lists d b ps a units lent =
    if_accepted (creation_reply d b ps a units (rooms_in lent))
    (with_order (creation_records d (account d b a) ps units) (creation_reports d (account d b a) ps units) lent)
    lent
