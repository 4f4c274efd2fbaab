-- What a row names, and that a call made for it gives what the definitions say of it.
use mathlib.Core.Path.{◌≡◌, refl, sym, ap, ◌∙◌}
use mathlib.Core.Bool.{false}
use mathlib.Core.List.{List, ◌++◌}
use Prim.Native.Nat.{ℕ, ◌+◌, ◌-◌}
use native.Mathlib.Omega.{arith}
use lib.ListN.{length, take, drop}
use Rattle.sequences.specs.Checks.{Reply, reply}
use Rattle.layout.specs.Day.{Day}
use Rattle.rules.specs.Price.{price_reply, priced_prices}
use Rattle.rules.specs.Trade.{trade_reply, traded_book}
use Rattle.rules.specs.Value.{value_reply}
use Rattle.rules.specs.declared.Ask.{Ask}
use Rattle.rules.specs.Lent.{Lent, lent_of, rooms_in}
use Rattle.rules.specs.Creation.{creation_reply, created_book, created_lists}
use Rattle.rules.specs.Redemption.{redemption_reply, redeemed_book, redeemed_lists}
use Rattle.rules.specs.Kinds.{creation_of, redemption_of, asked_records, asked_reports, counts_by, asked_checks, asked_reply, asked_moves, asked_book, asked_lists}
use Rattle.rules.proofs.Asked.{by_ask}
use Rattle.rules.specs.Sound.{is_sound}
use Rattle.calls.proofs.Laws.{price_five, prices_five, trade_five, traded_five, value_five}
use Rattle.order_calls.proofs.Laws.{order_five, book_five, lists_five}
use Rattle.balance.specs.Calls.{State, Result, Call, price, trade, create, redeem, value, step}
use Rattle.std.specs.Prelude.{Some}
use Rattle.driver_rows.specs.declared.Spans.{Spans}
use Rattle.driver_rows.specs.declared.Call.{Call as Named}
use Rattle.driver_rows.specs.declared.Call.TheVariants.{Price, Trade, Order, Value}
use Rattle.driver_rows.specs.declared.Work.{Work as Runs}
use Rattle.driver_rows.specs.Lent.{work_in, left_work}
use Rattle.driver_rows.specs.Rows.{Row, call, call_named, none, no_spans, spans_in, span_within, order_of, Work, state_of, work_of, lent_to, result_of, row_reply, row_leaves}
use Rattle.driver_rows.proofs.Parts.{none_within, own_back}

-- a part of a run from a start to before an end, and the run with another in its place
abbrev cut_of : ℕ → ℕ → List ℕ → List ℕ
cut_of start end run = take (end - start) (drop start run)

abbrev back_of : ℕ → ℕ → List ℕ → List ℕ → List ℕ
back_of start end run part = take start run ++ (part ++ drop (end - start) (drop start run))

-- What a row's answer and the runs have to be.
abbrev pub Meets : Day → Runs → Row → Reply → Runs → Type 0
Meets d w row r left = (r ≡ row_reply (work_in d w) row) × (left ≡ left_work w (row_leaves (work_in d w) row))

module _ (d : Day) (w : Runs) where
  abbrev b : List ℕ
  b = w.book.now

  abbrev ps : List ℕ
  ps = w.prices.now

  pub none_meets : Meets d w none (reply 1 0 0) w
  unfolding row_reply row_leaves
  none_meets = (refl, refl)

  -- the calls that are lent no list
  pub price_meets : (line p : ℕ) (r : Reply) (left : List ℕ) → r ≡ price_reply d b ps line p → left ≡ priced_prices d b ps line p
      → Meets d w (call (price line p) no_spans) r (record w { prices = record w.prices { now = left } })
  unfolding step row_reply row_leaves
  price_meets line p r left e f =
      rw (e, f, none_within (length w.records.now), none_within (length w.investor.now), none_within (length w.fund.now)) (refl, refl)

  pub trade_meets : (line n p seller buyer : ℕ) (r : Reply) (left : List ℕ) → r ≡ trade_reply d b ps line n p seller buyer
      → left ≡ traded_book d b ps line n p seller buyer
      → Meets d w (call (trade line n p seller buyer) no_spans) r (record w { book = record w.book { now = left } })
  unfolding step row_reply row_leaves
  trade_meets line n p seller buyer r left e f =
      rw (e, f, none_within (length w.records.now), none_within (length w.investor.now), none_within (length w.fund.now)) (refl, refl)

  pub value_meets : (r : Reply) → r ≡ value_reply d b ps → Meets d w (call value no_spans) r w
  unfolding step row_reply row_leaves
  value_meets r e = rw (e, none_within (length w.records.now), none_within (length w.investor.now), none_within (length w.fund.now)) (refl, refl)

-- an order's step, by what its ask comes to
pub order_step : (s : State) (lent : Lent) (ask : Ask)
    → step s (order_of ask) lent ≡ record {
      reply = asked_reply s.day s.book s.prices ask (rooms_in lent);
      after = record { day = s.day; book = asked_book s.day s.book s.prices ask (rooms_in lent); prices = s.prices };
      lent = asked_lists s.day s.book s.prices ask lent;
    }
unfolding step asked_reply asked_checks asked_records asked_reports counts_by asked_moves asked_book asked_lists creation_reply created_book created_lists redemption_reply redeemed_book redeemed_lists
order_step s lent =
    by_ask (λ ask. step s (order_of ask) lent ≡ record {
      reply = asked_reply s.day s.book s.prices ask (rooms_in lent);
      after = record { day = s.day; book = asked_book s.day s.book s.prices ask (rooms_in lent); prices = s.prices };
      lent = asked_lists s.day s.book s.prices ask lent;
    })
    (λ a units. refl)
    (λ a units. refl)

-- On a day that is not sound each call answers 5, and everything stays.
module _ (s : State) (lent : Lent) (unsound : is_sound s.day s.book s.prices ≡ false) where
  abbrev Stays : Call → Type 0
  Stays c = step s c lent ≡ record { reply = reply 5 0 0; after = s; lent = lent }

  order_stays : (ask : Ask) → Stays (order_of ask)
  order_stays ask =
      order_step s lent ask
      ∙ rw (← order_five _ _ _ unsound ask (rooms_in lent), ← book_five _ _ _ unsound ask (rooms_in lent), ← lists_five _ _ _ unsound ask lent) refl

  call_stays : (c : Call) → Stays c
  unfolding step
  call_stays (price line p) = rw (← price_five _ _ _ unsound line p, ← prices_five _ _ _ unsound line p) refl
  call_stays (trade line n p seller buyer) =
      rw (← trade_five _ _ _ unsound line n p seller buyer, ← traded_five _ _ _ unsound line n p seller buyer) refl
  call_stays (create a units) = order_stays (creation_of a units)
  call_stays (redeem a units) = order_stays (redemption_of a units)
  call_stays value = rw (← value_five _ _ _ unsound) refl

module _ (d : Day) (w : Runs) (unsound : is_sound d w.book.now w.prices.now ≡ false) where
  five_meets : (c : Call) (parts : Spans) → Meets d w (call c parts) (reply 5 0 0) w
  unfolding row_reply row_leaves
  five_meets c parts =
      let stays = call_stays _ (lent_to (work_in d w) parts) unsound c in (
        sym (ap (λ (r : Result). r.reply) stays),
        rw (stays, own_back w.records.now parts.records, own_back w.investor.now parts.investor, own_back w.fund.now parts.fund) refl,
      )

  pub named_meets : (row : List ℕ) (named : Named) → Meets d w (call_named row (Some named)) (reply 5 0 0) w
  named_meets row (Price line p) = five_meets (price line p) no_spans
  named_meets row (Trade t) = five_meets (trade t.line t.quantity t.price.0 t.seller t.buyer) no_spans
  named_meets row (Order ask) = five_meets (order_of ask) (spans_in row)
  named_meets row Value = five_meets value no_spans

-- An order on the parts of the runs that its row names, from what it answers and leaves: each part by its start and the first place behind it.
module _ (d : Day) (b ps : List ℕ) (runs : Lent) (ask : Ask) (parts : Spans) where
  abbrev w : Work
  w = work_of d b ps runs

  module _ (r-start r-end i_start i-end f-start f-end : ℕ)
      (r-at : (r-start ≡ (span_within (length runs.records) parts.records).start) × (r-end ≡ r-start + (span_within (length runs.records) parts.records).size))
      (i_at : (i_start ≡ (span_within (length runs.investor) parts.investor).start) × (i-end ≡ i_start + (span_within (length runs.investor) parts.investor).size))
      (f-at : (f-start ≡ (span_within (length runs.fund) parts.fund).start) × (f-end ≡ f-start + (span_within (length runs.fund) parts.fund).size)) where
    abbrev pub lent : Lent
    lent = lent_of (cut_of r-start r-end runs.records) (cut_of i_start i-end runs.investor) (cut_of f-start f-end runs.fund)

    size_of : (start end size : ℕ) → end ≡ start + size → end - start ≡ size
    size_of start end size q = omega (arith, q)

    lent_same : lent ≡ lent_to w parts
    lent_same = rw (size_of _ _ _ r-at.1, size_of _ _ _ i_at.1, size_of _ _ _ f-at.1, r-at.0, i_at.0, f-at.0) refl

    pub part_answers : (r : Reply) → r ≡ asked_reply d b ps ask (rooms_in lent) → r ≡ (result_of w (order_of ask) parts).reply
    part_answers r e = e ∙ ap (λ (l : Lent). asked_reply d b ps ask (rooms_in l)) lent_same ∙ sym (ap (λ (x : Result). x.reply) (order_step _ (lent_to w parts) ask))

    pub part_leaves : (after records investor fund : List ℕ) → after ≡ asked_book d b ps ask (rooms_in lent) → lent_of records investor fund ≡ asked_lists d b ps ask lent
        → work_of d after ps (lent_of (back_of r-start r-end runs.records records) (back_of i_start i-end runs.investor investor) (back_of f-start f-end runs.fund fund))
        ≡ row_leaves w (call (order_of ask) parts)
    unfolding row_leaves
    part_leaves after records investor fund f g =
        let lists : lent_of records investor fund ≡ asked_lists d b ps ask (lent_to w parts) = g ∙ ap (λ (l : Lent). asked_lists d b ps ask l) lent_same in
        rw (order_step (state_of d b ps) (lent_to w parts) ask, size_of _ _ _ r-at.1, size_of _ _ _ i_at.1, size_of _ _ _ f-at.1, r-at.0, i_at.0, f-at.0, ← lists, f, lent_same) refl
