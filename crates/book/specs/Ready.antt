-- What the moves ask of the book: stock and cash are there, and no sum passes 64 bits.
use Rattle.std.specs.Prelude.{ℕ, ◌+◌, ◌*◌, ◌^◌, ◌≤◌, ◌<◌, ◌≡◌, true, List, length}
use Rattle.sequences.specs.Stretch.{stretch_of}
use Rattle.lots.specs.declared.Lots.{Lots}
use Rattle.lots.specs.Lots.{sellable, handable, lots_total}
use Rattle.flags.specs.Table.{FlagTable, entry, in_use}
use Rattle.layout.specs.Places.{most_components}
use Rattle.layout.specs.declared.Component.{Component}
use Rattle.layout.specs.Day.{Day}
use Rattle.layout.specs.Book.{cash, head_at, lots_at, width_of, width, account, behind_line, counter}
use Rattle.rules.specs.Lines.{component_of}
use Rattle.rules.specs.declared.Kind.{Kind}
use Rattle.rules.specs.declared.Trade.{Trade}
use Rattle.rules.specs.declared.Kind.TheVariants.{Creation, Redemption}
use Rattle.rules.specs.Orders.{number_of, opposite_kind}
use Rattle.rules.specs.Kinds.{moved_by}
use Rattle.book.specs.Moved.{moved_of}

-- a trade, in a fund of n components
pub record Tradable (n : ℕ) (b : List ℕ) (line q price seller buyer : ℕ) : Type 0 where
  pub count_high : n ≤ most_components
  pub line_in_lem : line ≤ n
  pub seller_in : seller * width_of n + width_of n ≤ length b
  pub buyer_in : buyer * width_of n + width_of n ≤ length b
  pub two : buyer ≡ seller → ⊥
  pub stock : q ≤ sellable (lots_at (stretch_of (width_of n) b seller) line)
  pub lots_fit : (lots_at (stretch_of (width_of n) b buyer) line).bought + q < 2 ^ 64
  pub money : q * price ≤ head_at (stretch_of (width_of n) b buyer) cash
  pub cash_fits : head_at (stretch_of (width_of n) b seller) cash + q * price < 2 ^ 64

-- the same of a trade as the code has it
abbrev pub TradeReady : ℕ → List ℕ → Trade → Type 0
TradeReady n b t = Tradable n b t.line t.quantity t.price.0 t.seller t.buyer

-- one line of an order of m baskets by account a, with the component c, on a day with the flag table t; w is the width of a stretch
pub record LineReady (kind : Kind) (t : FlagTable) (c : Component) (b : List ℕ) (w a m line : ℕ) : Type 0 where
  pub account_low : 0 < a
  pub account_in : a * w + w ≤ length b
  pub line_in_lem : behind_line line ≤ w
  pub used : entry t c.flag in_use ≡ true
  pub need : m * c.quantity < 2 ^ 62
  pub held : lots_total (lots_at (stretch_of w b a) line) < 2 ^ 62
  pub room : (lots_at (stretch_of w b 0) line).old < 2 ^ 62
  pub delivers : kind ≡ Redemption → moved_of kind t c m (lots_at (stretch_of w b a) line) ≤ (lots_at (stretch_of w b 0) line).old

-- the components' lots of an account, with the stretch s, in an order of m baskets
pub record StockReady (d : Day) (s : List ℕ) (m : ℕ) : Type 0 where
  pub count_high : d.count ≤ most_components
  pub wide : width d ≤ length s
  pub used : (i : ℕ) → i < d.count → entry d.table (component_of d i).flag in_use ≡ true
  pub needs : (i : ℕ) → i < d.count → m * (component_of d i).quantity < 2 ^ 62
  pub held : (i : ℕ) → i < d.count → lots_total (lots_at s i) < 2 ^ 62

-- an account's lots x, of which it hands in q on a creation, and of which it gets q on a redemption; units go the opposite way
pub record LotsReady (kind : Kind) (x : Lots) (q : ℕ) : Type 0 where
  pub there : kind ≡ Creation → q ≤ handable x
  pub fits : x.got + q < 2 ^ 64

-- the cash of an account, which pays c on a creation, and gets c on a redemption; the fund the opposite
pub record CashReady (kind : Kind) (held c : ℕ) : Type 0 where
  pub there : kind ≡ Creation → c ≤ held
  pub fits : held + c < 2 ^ 64

-- an account's part of an order beside stock, in a fund of n components, with the stretch s: units, cash and counter
pub record AccountRest (kind : Kind) (n : ℕ) (s : List ℕ) (units c : ℕ) : Type 0 where
  pub line_in_lem : behind_line n ≤ length s
  pub lots : LotsReady (opposite_kind kind) (lots_at s n) units
  pub money : CashReady kind (head_at s cash) c
  pub count_fits : head_at s (counter (number_of kind)) + units < 2 ^ 64

-- the fund's lots, with the stretch f
pub record FundReady (kind : Kind) (d : Day) (s f : List ℕ) (m : ℕ) : Type 0 where
  pub room : (i : ℕ) → i < d.count → (lots_at f i).old < 2 ^ 62
  pub delivers : kind ≡ Redemption → (i : ℕ) → i < d.count → moved_by kind d s m i ≤ (lots_at f i).old

-- an order of an account other than the fund, with the cash c
pub record OrderReady (kind : Kind) (d : Day) (b : List ℕ) (a units m c : ℕ) : Type 0 where
  pub account_low : 0 < a
  pub account_in : a * width d + width d ≤ length b
  pub stock : StockReady d (account d b a) m
  pub rest : AccountRest kind d.count (account d b a) units c
  pub fund : FundReady kind d (account d b a) (account d b 0) m
  pub fund_money : CashReady (opposite_kind kind) (head_at (account d b 0) cash) c

-- its part beside stock, in a fund of n components
pub record RestReady (kind : Kind) (n : ℕ) (b : List ℕ) (a units c : ℕ) : Type 0 where
  pub count_high : n ≤ most_components
  pub account_low : 0 < a
  pub account_in : a * width_of n + width_of n ≤ length b
  pub rest : AccountRest kind n (stretch_of (width_of n) b a) units c
  pub fund_money : CashReady (opposite_kind kind) (head_at (stretch_of (width_of n) b 0) cash) c
