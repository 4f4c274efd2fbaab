-- The stock of one component that an order moves, read off the flag table, the component and the account's lots of it; and the book part
-- by part.
use Rattle.std.specs.Prelude.{ℕ, ◌+◌, ◌*◌, min, cond, List}
use Rattle.sequences.specs.Stretch.{stretch_of, put_stretch}
use Rattle.lots.specs.declared.Lots.{Lots}
use Rattle.lots.specs.Lots.{handable}
use Rattle.flags.specs.Table
use Rattle.layout.specs.declared.Component.{Component}
use Rattle.layout.specs.Day.{Day}
use Rattle.layout.specs.Book.{cash, width_of, width, account, head_at, put_head, on_line, each_line, counter}
use Rattle.rules.specs.declared.Kind.{Kind}
use Rattle.rules.specs.Orders.{number_of}
use Rattle.rules.specs.Kinds.{by_kind, moved_by, stock_lots, fund_lots, unit_lots, account_cash, fund_cash}

unfoldable pub moved_of : Kind → Table.FlagTable → Component → ℕ → Lots → ℕ
moved_of kind t c m x =
    by_kind kind
    (cond (Table.entry t c.flag Table.stock_moves) (min (m * c.quantity) (handable x)) 0)
    (cond (Table.entry t c.flag Table.stock_moves) (m * c.quantity) 0)

-- what that makes of the account's lots on line i, and of the fund's, for an account with the stretch s before the order
abbrev pub stock_by : Kind → Day → List ℕ → ℕ → ℕ → Lots → Lots
stock_by kind d s m i x = stock_lots kind x (moved_by kind d s m i)

abbrev pub fund_by : Kind → Day → List ℕ → ℕ → ℕ → Lots → Lots
fund_by kind d s m i x = fund_lots kind x (moved_by kind d s m i)

-- the account's stretch s when its units, cash c and counter have moved; n is the unit's line
unfoldable pub rest_of : Kind → ℕ → ℕ → ℕ → List ℕ → List ℕ
rest_of kind n units c s =
    put_head (counter (number_of kind)) (head_at s (counter (number_of kind)) + units) (put_head cash (account_cash kind (head_at s cash) c) (on_line (λ x. unit_lots kind x units) n s))

-- the book b in which the fund has the stretch f and account a has s
abbrev pub with_sides : ℕ → ℕ → List ℕ → List ℕ → List ℕ → List ℕ
with_sides w a f s b = put_stretch w (put_stretch w b 0 f) a s

-- b when q of line l has moved between the two; when the stock of the lines below n has; and when all beside stock has
unfoldable pub line_moves : Kind → ℕ → ℕ → ℕ → ℕ → List ℕ → List ℕ
line_moves kind w a l q b = with_sides w a (on_line (λ x. fund_lots kind x q) l (stretch_of w b 0)) (on_line (λ x. stock_lots kind x q) l (stretch_of w b a)) b

unfoldable pub stock_moves : Kind → Day → ℕ → ℕ → ℕ → List ℕ → List ℕ
stock_moves kind d a m n b =
    with_sides (width d) a (each_line (fund_by kind d (account d b a) m) n (account d b 0)) (each_line (stock_by kind d (account d b a) m) n (account d b a)) b

unfoldable pub rest_moves : Kind → ℕ → ℕ → ℕ → ℕ → List ℕ → List ℕ
rest_moves kind n a units c b =
    with_sides (width_of n) a
    (put_head cash (fund_cash kind (head_at (stretch_of (width_of n) b 0) cash) c) (stretch_of (width_of n) b 0))
    (rest_of kind n units c (stretch_of (width_of n) b a))
    b
