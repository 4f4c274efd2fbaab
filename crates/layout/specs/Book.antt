-- The book: for each account a stretch of 3 + 3 times (N+1) numbers: cash, created, redeemed, then old, bought and got of each line.
use Rattle.std.specs.Prelude.{ℕ, zero, suc, ◌+◌, ◌*◌, List, get_or, set}
use Rattle.sequences.specs.Stretch.{stretch_of, over}
use Rattle.lots.specs.declared.Lots.{Lots}
use Rattle.lots.specs.Lots.{lots_total}
use Rattle.layout.specs.Places.{lines_from, line_width}
use Rattle.layout.specs.Day.{Day}

abbrev pub width_of : ℕ → ℕ
width_of n = lines_from + line_width * (n + 1)

-- where the lots of a line start, and the first place behind them
abbrev pub line_from : ℕ → ℕ
line_from l = lines_from + line_width * l

abbrev pub behind_line : ℕ → ℕ
behind_line l = line_from (l + 1)

-- the three numbers at the head of a stretch: cash, units created today, units redeemed today
abbrev pub cash : ℕ
cash = 0

abbrev pub created : ℕ
created = 1

abbrev pub redeemed : ℕ
redeemed = 2

-- the counter of a kind of order, creation or redemption
abbrev pub counter : ℕ → ℕ
counter kind = created + kind

unfoldable pub head_at : List ℕ → ℕ → ℕ
head_at s k = get_or s k 0

unfoldable pub put_head : ℕ → ℕ → List ℕ → List ℕ
put_head k v s = set s k v

-- the three lots of a line
unfoldable pub lots_at : List ℕ → ℕ → Lots
lots_at s l = record { old = get_or s (line_from l) 0; bought = get_or s (line_from l + 1) 0; got = get_or s (line_from l + 2) 0 }

unfoldable pub put_lots : List ℕ → ℕ → Lots → List ℕ
put_lots s l x = set (set (set s (line_from l) x.old) (line_from l + 1) x.bought) (line_from l + 2) x.got

-- a stretch in which the lots of line l became f of them
unfoldable pub on_line : (Lots → Lots) → ℕ → List ℕ → List ℕ
on_line f l s = put_lots s l (f (lots_at s l))

-- the same at each line below n
unfoldable pub each_line : (ℕ → Lots → Lots) → ℕ → List ℕ → List ℕ
each_line f zero s = s
each_line f (suc l) s = on_line (f l) l (each_line f l s)

-- of a day: the width, an account's stretch, and totals over all accounts
abbrev pub width : Day → ℕ
width d = width_of d.count

abbrev pub account : Day → List ℕ → ℕ → List ℕ
account d b a = stretch_of (width d) b a

unfoldable pub head_total : Day → List ℕ → ℕ → ℕ
head_total d b k = over (width d) d.accounts (λ s. head_at s k) b

unfoldable pub line_total : Day → List ℕ → ℕ → ℕ
line_total d b l = over (width d) d.accounts (λ s. lots_total (lots_at s l)) b
