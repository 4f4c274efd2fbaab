-- A side of a trade in the whole book, and what the seller's leaves for the buyer's.
use mathlib.Core.Path.{◌≡◌, ◌∙◌}
use mathlib.Core.List.{List}
use Prim.Native.Nat.{ℕ, ◌+◌, ◌-◌, ◌*◌, ◌^◌, ◌≤◌, ◌<◌}
use lib.ListN.{length}
use Rattle.sequences.specs.Stretch.{stretch_of, on_stretch}
use Rattle.sequences.proofs.Stretch.{stretch-length, stretch-put-other}
use Rattle.lots.specs.Lots.{sell_of, buy_of}
use Rattle.layout.specs.Book.{cash, head_at, put_head, lots_at, put_lots, on_line, width_of}
use Rattle.rules.specs.Trade.{sell_side, buy_side}
use Rattle.rules.proofs.Sides.{side-length}
use Rattle.book.specs.Ready.{Tradable}

sell_side-length : (line q m : ℕ) (s : List ℕ) → length (sell_side line q m s) ≡ length s
unfolding sell_side
sell_side-length line q m s = side-length (λ x. sell_of x q) line (head_at s cash + m) s

-- the seller's side and the buyer's, of what is read off the book
module _ (w a line q m : ℕ) (b t : List ℕ) where
  pub sold_side : t ≡ on_stretch w a (λ s. put_head cash (head_at (stretch_of w b a) cash + m) (put_lots s line (sell_of (lots_at (stretch_of w b a) line) q))) b
      → t ≡ on_stretch w a (sell_side line q m) b
  unfolding sell_side on_line
  sold_side e = e

  pub bought_side : t ≡ on_stretch w a (λ s. put_head cash (head_at (stretch_of w b a) cash - m) (put_lots s line (buy_of (lots_at (stretch_of w b a) line) q))) b
      → t ≡ on_stretch w a (buy_side line q m) b
  unfolding buy_side on_line
  bought_side e = e

-- the buyer's stretch is as it was when the seller's has changed
pub buyer_ready : {n line q price seller buyer w : ℕ} {b mid : List ℕ} → Tradable n b line q price seller buyer → w ≡ width_of n
    → mid ≡ on_stretch w seller (sell_side line q (q * price)) b
    → ((lots_at (stretch_of w mid buyer) line).bought + q < 2 ^ 64) × (q * price ≤ head_at (stretch_of w mid buyer) cash)
buyer_ready {n} {line} {q} {price} {seller} {buyer} {w} {b} p e sold =
    let s = stretch_of (width_of n) b seller in
    let long = sell_side-length line q (q * price) s ∙ stretch-length (width_of n) b seller p.seller_in in
    let same = stretch-put-other (width_of n) b seller buyer (sell_side line q (q * price) s) p.two p.seller_in long in
    rw (sold, e, same) (p.lots_fit, p.money)
