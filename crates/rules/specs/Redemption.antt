-- Redemption of M baskets.
use Rattle.std.specs.Prelude.{ℕ, ◌+◌, ◌-◌, ◌*◌, Bool, cond, List, [], ◌∷◌, ◌++◌, ltb}
use Rattle.sequences.specs.Below.{first_below}
use Rattle.sequences.specs.Checks.{Check, check, Reply, answering}
use Rattle.sequences.specs.Stretch.{on_stretch}
use Rattle.units.specs.Units.{discount}
use Rattle.lots.specs.Lots.{hand_in_of, get_of, pay_out_of, handable}
use Rattle.layout.specs.Day.{Day}
use Rattle.layout.specs.declared.Record.{Record}
use Rattle.layout.specs.declared.Report.{Report}
use Rattle.rules.specs.declared.Kind.TheVariants.{Redemption}
use Rattle.rules.specs.declared.Rooms.{Rooms}
use Rattle.rules.specs.declared.Counts.{Counts}
use Rattle.rules.specs.Replies.{made_reply, if_accepted}
use Rattle.layout.specs.Book.{cash, head_at, lots_at, width, account}
use Rattle.rules.specs.Lines.{moves_stock, redemption_rate, redemption_amount}
use Rattle.rules.specs.Sound.{on_sound_day}
use Rattle.rules.specs.Orders.{baskets, form_checks, permission_checks, need, shanghai_cash, other_cash, account_side, fund_side}
use Rattle.rules.specs.Records.{side_b, side_s, order_records}
use Rattle.rules.specs.Reports.{order_reports}
use Rattle.rules.specs.Lent.{Lent, rooms_in, counts_of, too_short, with_order}

-- a component that moves stock is delivered in full
unfoldable pub delivered : Day → ℕ → ℕ → ℕ
delivered d m i = cond (moves_stock d i) (need d m i) 0

-- the others pay M times P less the discount
unfoldable pub redemption_cash : Day → ℕ → ℕ → ℕ
redemption_cash d m i = cond (moves_stock d i) 0 (discount (m * redemption_amount d i) (redemption_rate d i))

-- what the fund pays
unfoldable pub redemption_paid : Day → ℕ → ℕ
redemption_paid d m = other_cash d (redemption_cash d m) + shanghai_cash d (redemption_cash d m)

-- the units that an account, with the stretch s, can hand in: those created today are got, and don't count
unfoldable pub units_available : Day → List ℕ → ℕ
units_available d s = handable (lots_at s d.count)

-- the fund, with the stretch f, is short of component i: its stock is its old lot
unfoldable pub fund_lacks : Day → List ℕ → ℕ → ℕ → Bool
fund_lacks d f m i = ltb (lots_at f i).old (delivered d m i)

unfoldable pub first_lacking : Day → List ℕ → ℕ → ℕ
first_lacking d f m = first_below (fund_lacks d f m) d.count

-- stock is B, the rest S
unfoldable pub redemption_records : Day → ℕ → List Record
redemption_records d units =
    order_records d side_b side_s units
    (delivered d (baskets d units))
    (other_cash d (redemption_cash d (baskets d units)))
    (shanghai_cash d (redemption_cash d (baskets d units)))

-- the investor's reports: stock is on side 1, the rest on side 2
unfoldable pub redemption_reports : Day → ℕ → List Report
redemption_reports d units =
    order_reports d side_b side_s units
    (delivered d (baskets d units))
    (other_cash d (redemption_cash d (baskets d units)))
    (shanghai_cash d (redemption_cash d (baskets d units)))

abbrev pub redemption_counts : Day → ℕ → Counts
redemption_counts d units = counts_of (redemption_records d units) (redemption_reports d units)

-- the third stage; the rooms are how many records and reports the lent lists take
unfoldable pub redemption_means : Day → List ℕ → List ℕ → ℕ → Rooms → List Check
redemption_means d s f units rooms =
    check (ltb (units_available d s) units) 9 0
    ∷ check (ltb (first_lacking d f (baskets d units)) d.count) 17 (first_lacking d f (baskets d units))
    ∷ check (ltb (head_at f cash) (redemption_paid d (baskets d units))) 17 d.count
    ∷ check (too_short rooms (redemption_counts d units)) 16 0
    ∷ []

unfoldable pub redemption_checks : Day → List ℕ → ℕ → ℕ → Rooms → List Check
redemption_checks d b a units rooms =
    form_checks d a units ++ (permission_checks d b Redemption a units ++ redemption_means d (account d b a) (account d b 0) units rooms)

unfoldable pub redemption_reply : Day → List ℕ → List ℕ → ℕ → ℕ → Rooms → Reply
redemption_reply d b ps a units rooms =
    answering (on_sound_day d b ps (redemption_checks d b a units rooms)) (made_reply (redemption_counts d units))

-- the fund delivers stock and cash, and the units cease
unfoldable pub redemption_moves : Day → ℕ → ℕ → List ℕ → List ℕ
redemption_moves d a units b =
    on_stretch (width d) a
    (λ s. account_side d.count Redemption units (λ i x. get_of x (delivered d (baskets d units) i)) (λ x. hand_in_of x units) (head_at s cash + redemption_paid d (baskets d units)) s)
    (on_stretch (width d) 0
    (λ f. fund_side d.count (λ i x. pay_out_of x (delivered d (baskets d units) i)) (head_at f cash - redemption_paid d (baskets d units)) f)
    b)

unfoldable pub redeemed_book : Day → List ℕ → List ℕ → ℕ → ℕ → Rooms → List ℕ
redeemed_book d b ps a units rooms = if_accepted (redemption_reply d b ps a units rooms) (redemption_moves d a units b) b

-- the three lists
unfoldable pub redeemed_lists : Day → List ℕ → List ℕ → ℕ → ℕ → Lent → Lent
redeemed_lists d b ps a units lent =
    if_accepted (redemption_reply d b ps a units (rooms_in lent)) (with_order (redemption_records d units) (redemption_reports d units) lent) lent
