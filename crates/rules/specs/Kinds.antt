-- Creation and redemption by one text, for the code that serves both kinds of order: what an ask comes to, from the definitions of
-- its kind.
use Rattle.std.specs.Prelude.{ℕ, ◌+◌, ◌-◌, cond, List, length, eqb}
use Rattle.sequences.specs.Checks.{Check, Reply, answering}
use Rattle.sequences.specs.Stretch.{on_stretch}
use Rattle.lots.specs.declared.Lots.{Lots}
use Rattle.lots.specs.Lots.{hand_in_of, get_of, take_in_of, pay_out_of}
use Rattle.layout.specs.Day.{Day}
use Rattle.rules.specs.declared.Kind.{Kind}
use Rattle.rules.specs.declared.Kind.TheVariants.{Creation, Redemption}
use Rattle.rules.specs.declared.Ask.{Ask}
use Rattle.rules.specs.declared.CashByMarket.{CashByMarket}
use Rattle.layout.specs.declared.Record.{Record}
use Rattle.layout.specs.declared.Report.{Report}
use Rattle.layout.specs.Places.{report_width}
use Rattle.layout.specs.Laid.{room_of}
use Rattle.rules.specs.declared.Rooms.{Rooms}
use Rattle.rules.specs.declared.Counts.{Counts}
use Rattle.rules.specs.Replies.{made_reply, if_accepted}
use Rattle.layout.specs.Book.{cash, head_at, width, account}
use Rattle.rules.specs.Sound.{on_sound_day}
use Rattle.rules.specs.Orders.{baskets, other_cash, shanghai_cash, account_side, fund_side}
use Rattle.rules.specs.Records.{side_b, side_s, order_records}
use Rattle.rules.specs.Reports.{order_reports}
use Rattle.rules.specs.Lent.{Lent, rooms_in, counts_of, with_order}
use Rattle.rules.specs.Creation.{handed_in, creation_cash, creation_records, creation_reports, creation_means, creation_checks, creation_moves}
use Rattle.rules.specs.Redemption.{delivered, redemption_cash, redemption_records, redemption_reports, redemption_means, redemption_checks, redemption_moves}

abbrev pub by_kind : {A : Type 0} → Kind → A → A → A
by_kind Creation x y = x
by_kind Redemption x y = y

abbrev pub ask_of : Kind → ℕ → ℕ → Ask
ask_of kind a units = record { kind = kind; account = a; units = units }

abbrev pub creation_of : ℕ → ℕ → Ask
creation_of a units = ask_of Creation a units

abbrev pub redemption_of : ℕ → ℕ → Ask
redemption_of a units = ask_of Redemption a units

-- Cash by market: of all components, where component i has f i; all of it; and none.
abbrev pub by_market : Day → (ℕ → ℕ) → CashByMarket
by_market d f = record { shanghai = record { 0 = shanghai_cash d f }; other = record { 0 = other_cash d f } }

abbrev pub all_cash : CashByMarket → ℕ
all_cash c = c.other.0 + c.shanghai.0

abbrev pub no_cash : CashByMarket
no_cash = record { shanghai = record { 0 = 0 }; other = record { 0 = 0 } }

-- the stock of component i that an order of m baskets moves, for an account with the stretch s
unfoldable pub moved_by : Kind → Day → List ℕ → ℕ → ℕ → ℕ
moved_by kind d s m i = by_kind kind (handed_in d s m i) (delivered d m i)

-- what that makes of the account's lots, and of the fund's, and what the units make of the account's
unfoldable pub stock_lots : Kind → Lots → ℕ → Lots
stock_lots kind x q = by_kind kind (hand_in_of x q) (get_of x q)

unfoldable pub fund_lots : Kind → Lots → ℕ → Lots
fund_lots kind x q = by_kind kind (take_in_of x q) (pay_out_of x q)

unfoldable pub unit_lots : Kind → Lots → ℕ → Lots
unit_lots kind x q = by_kind kind (get_of x q) (hand_in_of x q)

-- cash c goes from the account to the fund, or the other way
unfoldable pub account_cash : Kind → ℕ → ℕ → ℕ
account_cash kind held c = by_kind kind (held - c) (held + c)

unfoldable pub fund_cash : Kind → ℕ → ℕ → ℕ
fund_cash kind held c = by_kind kind (held + c) (held - c)

unfoldable pub order_moves : Kind → Day → ℕ → ℕ → ℕ → ℕ → List ℕ → List ℕ
order_moves kind d a units m c b =
    on_stretch (width d) a
    (λ s. account_side d.count kind units (λ i x. stock_lots kind x (moved_by kind d (account d b a) m i)) (λ x. unit_lots kind x units) (account_cash kind (head_at s cash) c) s)
    (on_stretch (width d) 0
    (λ f. fund_side d.count (λ i x. fund_lots kind x (moved_by kind d (account d b a) m i)) (fund_cash kind (head_at f cash) c) f)
    b)

-- the records: stock is S on creation and B on redemption, and the rest the other side
abbrev pub stock_side : Kind → ℕ
stock_side kind = by_kind kind side_s side_b

abbrev pub rest_side : Kind → ℕ
rest_side kind = by_kind kind side_b side_s

unfoldable pub records_by : Kind → Day → List ℕ → ℕ → ℕ → CashByMarket → List Record
records_by kind d s units m c = order_records d (stock_side kind) (rest_side kind) units (moved_by kind d s m) c.other.0 c.shanghai.0

-- the investor's reports, with the same sides
unfoldable pub reports_by : Kind → Day → List ℕ → ℕ → ℕ → CashByMarket → List Report
reports_by kind d s units m c = order_reports d (stock_side kind) (rest_side kind) units (moved_by kind d s m) c.other.0 c.shanghai.0

-- how many reports tell an order's cash
unfoldable pub cash_report_count : CashByMarket → ℕ
cash_report_count c = cond (eqb (all_cash c) 0) 0 1

-- What an ask comes to, for an account with the stretch s and a fund with the stretch f: the cash, the records, the reports, and the third stage.
unfoldable pub cash_by : Kind → Day → List ℕ → List ℕ → ℕ → CashByMarket
cash_by kind d s ps m = by_market d (by_kind kind (creation_cash d s ps m) (redemption_cash d m))

unfoldable pub asked_cash : Day → List ℕ → List ℕ → Ask → CashByMarket
asked_cash d s ps k = cash_by k.kind d s ps (baskets d k.units)

unfoldable pub asked_records : Day → List ℕ → List ℕ → Ask → List Record
asked_records d s ps k = by_kind k.kind (creation_records d s ps k.units) (redemption_records d k.units)

unfoldable pub asked_reports : Day → List ℕ → List ℕ → Ask → List Report
asked_reports d s ps k = by_kind k.kind (creation_reports d s ps k.units) (redemption_reports d k.units)

-- the records of an order of the account's, and the reports to the investor
unfoldable pub records_of : Day → List ℕ → List ℕ → Ask → List Record
records_of d b ps ask = asked_records d (account d b ask.account) ps ask

abbrev pub reports_of : Day → List ℕ → List ℕ → Ask → List Report
reports_of d b ps ask = asked_reports d (account d b ask.account) ps ask

-- room for so many records, and the rooms of the two runs of reports beside them
abbrev pub rooms_beside : ℕ → List ℕ → List ℕ → Rooms
rooms_beside records investor fund =
    record { records = records; investor = room_of report_width (length investor); fund = room_of report_width (length fund) }

-- how many records and reports the order makes
unfoldable pub counts_by : Day → List ℕ → List ℕ → Ask → Counts
counts_by d s ps k = counts_of (asked_records d s ps k) (asked_reports d s ps k)

unfoldable pub asked_means : Day → List ℕ → List ℕ → List ℕ → Ask → Rooms → List Check
asked_means d s f ps k rooms = by_kind k.kind (creation_means d s ps k.units rooms) (redemption_means d s f k.units rooms)

-- With the book b: all tests after 5, the reply, and what moves.
unfoldable pub asked_checks : Day → List ℕ → List ℕ → Ask → Rooms → List Check
asked_checks d b ps k rooms =
    by_kind k.kind (creation_checks d b ps k.account k.units rooms) (redemption_checks d b k.account k.units rooms)

abbrev pub asked_counts : Day → List ℕ → List ℕ → Ask → Counts
asked_counts d b ps k = counts_by d (account d b k.account) ps k

unfoldable pub asked_reply : Day → List ℕ → List ℕ → Ask → Rooms → Reply
asked_reply d b ps k rooms = answering (on_sound_day d b ps (asked_checks d b ps k rooms)) (made_reply (asked_counts d b ps k))

unfoldable pub asked_moves : Day → List ℕ → Ask → List ℕ → List ℕ
asked_moves d ps k b = by_kind k.kind (creation_moves d ps k.account k.units b) (redemption_moves d k.account k.units b)

-- the book and the lists that it leaves
unfoldable pub asked_book : Day → List ℕ → List ℕ → Ask → Rooms → List ℕ
asked_book d b ps k rooms = if_accepted (asked_reply d b ps k rooms) (asked_moves d ps k b) b

-- the lists with what the order makes
abbrev pub with_asked : Day → List ℕ → List ℕ → Ask → Lent → Lent
with_asked d b ps k lent = with_order (asked_records d (account d b k.account) ps k) (asked_reports d (account d b k.account) ps k) lent

unfoldable pub asked_lists : Day → List ℕ → List ℕ → Ask → Lent → Lent
asked_lists d b ps k lent = if_accepted (asked_reply d b ps k (rooms_in lent)) (with_asked d b ps k lent) lent
