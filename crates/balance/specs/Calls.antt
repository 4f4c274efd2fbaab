-- A list of calls on a day: one step by the definitions, and what it is for a list of events to have happened.
use Rattle.std.specs.Prelude.{ℕ, ◌≡◌, List, [], ◌∷◌}
use Rattle.sequences.specs.Checks.{Reply}
use Rattle.layout.specs.Day.{Day}
use Rattle.rules.specs.Price.{price_reply, priced_prices}
use Rattle.rules.specs.Trade.{trade_reply, traded_book}
use Rattle.rules.specs.Value.{value_reply}
use Rattle.rules.specs.Lent.{Lent, rooms_in}
use Rattle.rules.specs.Creation.{creation_reply, created_book, created_lists}
use Rattle.rules.specs.Redemption.{redemption_reply, redeemed_book, redeemed_lists}

-- the day, and the book and the prices that are lent with it
pub record State : Type 0 where
  pub day : Day
  pub book : List ℕ
  pub prices : List ℕ

pub data Call : Type 0 where
  -- line, price
  price : ℕ → ℕ → Call
  -- line, quantity, price, seller, buyer
  trade : ℕ → ℕ → ℕ → ℕ → ℕ → Call
  -- account, units
  create : ℕ → ℕ → Call
  redeem : ℕ → ℕ → Call
  value : Call

pub record Result : Type 0 where
  pub reply : Reply
  pub after : State
  pub lent : Lent

-- one call on a state, with the lists that are lent to it
unfoldable pub step : State → Call → Lent → Result
step s (price line p) lent =
    record {
      reply = price_reply s.day s.book s.prices line p;
      after = record { day = s.day; book = s.book; prices = priced_prices s.day s.book s.prices line p };
      lent = lent;
    }
step s (trade line q p seller buyer) lent =
    record {
      reply = trade_reply s.day s.book s.prices line q p seller buyer;
      after = record { day = s.day; book = traded_book s.day s.book s.prices line q p seller buyer; prices = s.prices };
      lent = lent;
    }
step s (create a units) lent =
    record {
      reply = creation_reply s.day s.book s.prices a units (rooms_in lent);
      after = record { day = s.day; book = created_book s.day s.book s.prices a units (rooms_in lent); prices = s.prices };
      lent = created_lists s.day s.book s.prices a units lent;
    }
step s (redeem a units) lent =
    record {
      reply = redemption_reply s.day s.book s.prices a units (rooms_in lent);
      after = record { day = s.day; book = redeemed_book s.day s.book s.prices a units (rooms_in lent); prices = s.prices };
      lent = redeemed_lists s.day s.book s.prices a units lent;
    }
step s value lent = record { reply = value_reply s.day s.book s.prices; after = s; lent = lent }

-- what was observed of one call
pub record Event : Type 0 where
  pub call : Call
  pub lent : Lent
  pub result : Result

-- the events, in order, lead from s to t: each call takes the day, book and prices as the one before left them
unfoldable pub Happened : State → List Event → State → Type 0
Happened s [] t = s ≡ t
Happened s (e ∷ es) t = (e.result ≡ step s e.call e.lent) × Happened e.result.after es t
