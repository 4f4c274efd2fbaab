-- A trade moves a quantity of a line from seller to buyer, and quantity times price in cash from buyer to seller.
use Rattle.std.specs.Prelude.{ℕ, ◌+◌, ◌-◌, ◌*◌, Bool, not, List, [], ◌∷◌, ltb, eqb}
use Rattle.sequences.specs.Every.{inside}
use Rattle.sequences.specs.Checks.{Check, check, Reply, answered}
use Rattle.sequences.specs.Stretch.{stretch_of, on_stretch}
use Rattle.lots.specs.Lots.{sell_of, buy_of, sellable}
use Rattle.layout.specs.Day.{Day}
use Rattle.rules.specs.declared.Trade.{Trade}
use Rattle.rules.specs.Replies.{if_accepted}
use Rattle.layout.specs.Book.{cash, head_at, put_head, width_of, lots_at, on_line}
use Rattle.rules.specs.Sound.{on_sound_day, most_price}

-- one of the accounts other than the fund
unfoldable pub is_investor : ℕ → ℕ → Bool
is_investor accounts a = inside 1 (accounts - 1) a

-- in a fund of n components; the means are the seller's stock and the buyer's cash for the amount
unfoldable pub trade_means : ℕ → List ℕ → ℕ → ℕ → ℕ → ℕ → ℕ → List Check
trade_means n b line q amount seller buyer =
    check (ltb (sellable (lots_at (stretch_of (width_of n) b seller) line)) q) 9 0
    ∷ check (ltb (head_at (stretch_of (width_of n) b buyer) cash) amount) 10 0
    ∷ []

unfoldable pub trade_checks : ℕ → ℕ → List ℕ → ℕ → ℕ → ℕ → ℕ → ℕ → List Check
trade_checks accounts n b line q price seller buyer =
    check (ltb n line) 6 0
    ∷ check (not (inside 1 999_999_999 q)) 7 0
    ∷ check (not (inside 1 most_price price)) 7 0
    ∷ check (not (is_investor accounts seller)) 8 0
    ∷ check (not (is_investor accounts buyer)) 8 0
    ∷ check (eqb seller buyer) 8 0
    ∷ trade_means n b line q (q * price) seller buyer

unfoldable pub trade_reply : Day → List ℕ → List ℕ → ℕ → ℕ → ℕ → ℕ → ℕ → Reply
trade_reply d b ps line q price seller buyer = answered (on_sound_day d b ps (trade_checks d.accounts d.count b line q price seller buyer)) 0

-- the seller's stretch and the buyer's after a trade of q for an amount m
unfoldable pub sell_side : ℕ → ℕ → ℕ → List ℕ → List ℕ
sell_side line q m s = put_head cash (head_at s cash + m) (on_line (λ x. sell_of x q) line s)

unfoldable pub buy_side : ℕ → ℕ → ℕ → List ℕ → List ℕ
buy_side line q m s = put_head cash (head_at s cash - m) (on_line (λ x. buy_of x q) line s)

unfoldable pub trade_moves : ℕ → ℕ → ℕ → ℕ → ℕ → ℕ → List ℕ → List ℕ
trade_moves n line q price seller buyer b =
    on_stretch (width_of n) buyer (buy_side line q (q * price)) (on_stretch (width_of n) seller (sell_side line q (q * price)) b)

unfoldable pub traded_book : Day → List ℕ → List ℕ → ℕ → ℕ → ℕ → ℕ → ℕ → List ℕ
traded_book d b ps line q price seller buyer =
    if_accepted (trade_reply d b ps line q price seller buyer) (trade_moves d.count line q price seller buyer b) b

-- the same of a trade as the code has it
abbrev pub means_of_trade : ℕ → List ℕ → Trade → ℕ → List Check
means_of_trade n b t amount = trade_means n b t.line t.quantity amount t.seller t.buyer

abbrev pub checks_of_trade : ℕ → ℕ → List ℕ → Trade → List Check
checks_of_trade accounts n b t = trade_checks accounts n b t.line t.quantity t.price.0 t.seller t.buyer

abbrev pub reply_of_trade : Day → List ℕ → List ℕ → Trade → Reply
reply_of_trade d b ps t = trade_reply d b ps t.line t.quantity t.price.0 t.seller t.buyer

abbrev pub moves_of_trade : ℕ → Trade → List ℕ → List ℕ
moves_of_trade n t b = trade_moves n t.line t.quantity t.price.0 t.seller t.buyer b

abbrev pub book_of_trade : Day → List ℕ → List ℕ → Trade → List ℕ
book_of_trade d b ps t = traded_book d b ps t.line t.quantity t.price.0 t.seller t.buyer
