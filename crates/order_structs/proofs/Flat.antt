-- The struct form and the flat form are one: flattened, the list that an order leaves is the flat list that it leaves of the list flattened, and their rooms agree.
-- So a chain of calls with orders in the struct form has happened, as `balance` means it.
use mathlib.Core.Path.{◌≡◌, refl, sym, ap, ◌∙◌}
use mathlib.Core.List.{List, [], ◌∷◌, ◌++◌}
use Prim.Native.Nat.{ℕ, zero, suc, ◌*◌}
use native.Mathlib.Omega.{arith}
use lib.ListN.{length, drop}
use lib.Seq.{drop-nil}
use Rattle.layout.specs.Places.{record_width}
use Rattle.layout.specs.Day.{Day}
use Rattle.layout.specs.declared.Record.{Record}
use Rattle.layout.specs.Laid.{laid, with_laid, room_of}
use Rattle.layout.specs.Records.{flatten, record_numbers, with_records, at_front}
use Rattle.layout.proofs.Records.{flatten-append, flatten-length}
use Rattle.rules.specs.declared.Ask.{Ask}
use Rattle.rules.specs.declared.Rooms.{Rooms}
use Rattle.rules.specs.Lent.{Lent, lent_of, rooms_in, with_order}
use Rattle.rules.specs.Creation.{creation_reply, created_book, created_lists}
use Rattle.rules.specs.Redemption.{redemption_reply, redeemed_book, redeemed_lists}
use Rattle.rules.specs.Kinds.{by_kind, asked_records, asked_reports, records_of, rooms_beside, counts_by, asked_checks, asked_reply, asked_moves, asked_book, asked_lists}
use Rattle.balance.specs.Calls.{State, Call, Result, step, create, redeem}
use Rattle.order_structs.specs.Made.{made_records, made_reports}
use Rattle.rules.proofs.Asked.{by_ask}

-- flattened, a list of records has room for as many as it holds
pub rooms_agree : (list : List Record) (investor fund : List ℕ) → rooms_in (lent_of (flatten list) investor fund) ≡ rooms_beside (length list) investor fund
unfolding rooms_in
rooms_agree list investor fund =
    let agree : room_of record_width (length (flatten list)) ≡ length list = omega (arith, flatten-length list) in
    ap (λ (k : ℕ). rooms_beside k investor fund) agree

flatten-drop : (n : ℕ) (list : List Record) → drop (record_width * n) (flatten list) ≡ flatten (drop n list)
unfolding flatten laid
flatten-drop zero list = refl
flatten-drop (suc n) [] = drop-nil (record_width * suc n)
flatten-drop (suc n) (r ∷ list) =
    let next : record_width * suc n ≡ suc (suc (suc (suc (suc (record_width * n))))) = omega arith in
    ap (λ (k : ℕ). drop k (record_numbers r ++ flatten list)) next ∙ flatten-drop n list

-- the lists of an order in the struct form, flattened
abbrev made_lists : Day → List ℕ → List ℕ → Ask → List Record → List ℕ → List ℕ → Lent
made_lists d b ps ask list investor fund =
    let rooms = rooms_beside (length list) investor fund in
    let reports = made_reports d b ps ask rooms investor fund in
    lent_of (flatten (made_records d b ps ask rooms list)) reports.0 reports.1

front_flat : (rs list : List Record) → flatten (at_front rs list) ≡ with_records rs (flatten list)
unfolding with_records with_laid flatten
front_flat rs list = flatten-append rs (drop (length rs) list) ∙ ap (λ (t : List ℕ). flatten rs ++ t) (sym (flatten-drop (length rs) list))

pub made_flat : (d : Day) (b ps : List ℕ) (ask : Ask) (list : List Record) (investor fund : List ℕ)
    → made_lists d b ps ask list investor fund ≡ asked_lists d b ps ask (lent_of (flatten list) investor fund)
unfolding made_records made_reports asked_lists records_of with_order
made_flat d b ps ask list investor fund = grind (arith, rooms_agree, front_flat)

-- the call of an order
abbrev call_of : Ask → Call
call_of ask = by_kind ask.kind (create ask.account ask.units) (redeem ask.account ask.units)

-- what an ask on a state answers and leaves, with lists lent that have such rooms
abbrev result_of : State → Ask → Rooms → Lent → Result
result_of s ask rooms left =
    record {
      reply = asked_reply s.day s.book s.prices ask rooms;
      after = record { day = s.day; book = asked_book s.day s.book s.prices ask rooms; prices = s.prices };
      lent = left;
    }

-- the step of a call with flat lists lent
flat_step : (s : State) (ask : Ask) (lent : Lent)
    → step s (call_of ask) lent ≡ result_of s ask (rooms_in lent) (asked_lists s.day s.book s.prices ask lent)
unfolding step asked_lists asked_book asked_moves asked_reply asked_checks counts_by asked_records asked_reports creation_reply created_book created_lists redemption_reply
    redeemed_book redeemed_lists
flat_step s ask lent =
    by_ask (λ k. step s (call_of k) lent ≡ result_of s k (rooms_in lent) (asked_lists s.day s.book s.prices k lent))
    (λ a units. refl)
    (λ a units. refl)
    ask

-- what an order in the struct form answers and leaves is the step of its call, with the list flattened: an event with that result is one of `Happened`
pub order_step : (s : State) (ask : Ask) (list : List Record) (investor fund : List ℕ)
    → step s (call_of ask) (lent_of (flatten list) investor fund)
    ≡ result_of s ask (rooms_beside (length list) investor fund) (made_lists s.day s.book s.prices ask list investor fund)
order_step s ask list investor fund =
    let d = s.day in
    let b = s.book in
    let ps = s.prices in
    let lent = lent_of (flatten list) investor fund in
    flat_step s ask lent
    ∙ (λ i. result_of s ask (rooms_agree list investor fund i) (sym (made_flat d b ps ask list investor fund) i))
