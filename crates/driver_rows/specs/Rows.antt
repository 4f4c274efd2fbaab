-- A list of calls as rows of numbers: what a row names, and what the definitions make of it.
use Rattle.std.specs.Prelude.{ℕ, ◌+◌, cond, List, ◌++◌, eqb, leb, length, get_or, take, drop, Option, Some, None}
use Rattle.sequences.specs.Checks.{Reply, reply}
use Rattle.sequences.specs.Stretch.{stretch_of}
use Rattle.layout.specs.Places.{row_width}
use Rattle.layout.specs.Day.{Day}
use Rattle.rules.specs.declared.Ask.{Ask}
use Rattle.driver_rows.specs.declared.Span.{Span}
use Rattle.driver_rows.specs.declared.Spans.{Spans}
use Rattle.driver_rows.specs.declared.Call.{Call as Named}
use Rattle.driver_rows.specs.declared.Call.TheVariants.{Price, Trade, Order, Value}
use Rattle.rules.specs.Kinds.{by_kind}
use Rattle.rules.specs.Lent.{Lent, lent_of}
use Rattle.balance.specs.Calls.{State, Call, Result, price, trade, create, redeem, value, step}

-- a part of a run, from its start and its length
abbrev pub span : ℕ → ℕ → Span
span start size = record { start = start; size = size }

abbrev pub no_spans : Spans
no_spans = record { records = span 0 0; investor = span 0 0; fund = span 0 0 }

-- a call with its parts of the runs, or none
pub data Row : Type 0 where
  call : Call → Spans → Row
  none : Row

-- the call of an order of either kind
abbrev pub order_of : Ask → Call
order_of ask = by_kind ask.kind (create ask.account ask.units) (redeem ask.account ask.units)

-- the k-th number of a row
abbrev pub cell : List ℕ → ℕ → ℕ
cell row k = get_or row k 0

-- the parts that an order's row names, from its third number on
abbrev pub spans_in : List ℕ → Spans
spans_in row =
    record {
      records = span (cell row 3) (cell row 4);
      investor = span (cell row 5) (cell row 6);
      fund = span (cell row 7) (cell row 8);
    }

-- kind 1 price: line, price; 2 trade: line, quantity, price, seller, buyer; 3 create and 4 redeem: account, units, start and
-- length of its part of each run; 5 value. Any other kind names no call.
unfoldable pub row_of : List ℕ → Row
row_of row =
    cond (eqb (cell row 0) 1) (call (price (cell row 1) (cell row 2)) no_spans)
    (cond (eqb (cell row 0) 2) (call (trade (cell row 1) (cell row 2) (cell row 3) (cell row 4) (cell row 5)) no_spans)
    (cond (eqb (cell row 0) 3) (call (create (cell row 1) (cell row 2)) (spans_in row))
    (cond (eqb (cell row 0) 4) (call (redeem (cell row 1) (cell row 2)) (spans_in row))
    (cond (eqb (cell row 0) 5) (call value no_spans) none))))

-- the row that a call of the code stands for
abbrev pub call_named : List ℕ → Option Named → Row
call_named row (Some (Price line p)) = call (price line p) no_spans
call_named row (Some (Trade t)) = call (trade t.line t.quantity t.price.0 t.seller t.buyer) no_spans
call_named row (Some (Order ask)) = call (order_of ask) (spans_in row)
call_named row (Some Value) = call value no_spans
call_named row None = none

-- the i-th row
abbrev pub row_at : List ℕ → ℕ → Row
row_at rows i = row_of (stretch_of row_width rows i)

-- the part of a run of n numbers that is lent: the empty one at the front, where the part named lies outside the run
unfoldable pub span_within : ℕ → Span → Span
span_within n p = cond (leb (p.start + p.size) n) p (span 0 0)

-- the part of a run, and the run with another in its place
abbrev pub part_of : Span → List ℕ → List ℕ
part_of p run = take p.size (drop p.start run)

abbrev pub put_part : Span → List ℕ → List ℕ → List ℕ
put_part p run part = take p.start run ++ (part ++ drop p.size (drop p.start run))

-- what the calls work on: the state and the three runs
pub record Work : Type 0 where
  pub state : State
  pub runs : Lent

-- a state, and the work on it, from the parts
abbrev pub state_of : Day → List ℕ → List ℕ → State
state_of d book prices = record { day = d; book = book; prices = prices }

abbrev pub work_of : Day → List ℕ → List ℕ → Lent → Work
work_of d book prices runs = record { state = state_of d book prices; runs = runs }

-- the lists that are lent to a call: the part of each run
abbrev pub lent_in : List ℕ → Span → List ℕ
lent_in run p = part_of (span_within (length run) p) run

abbrev pub lent_to : Work → Spans → Lent
lent_to w ps = lent_of (lent_in w.runs.records ps.records) (lent_in w.runs.investor ps.investor) (lent_in w.runs.fund ps.fund)

-- the call's result on them, and the runs with the lists that it leaves
abbrev pub result_of : Work → Call → Spans → Result
result_of w c ps = step w.state c (lent_to w ps)

abbrev pub back_in : List ℕ → Span → List ℕ → List ℕ
back_in run p list = put_part (span_within (length run) p) run list

abbrev pub runs_after : Lent → Spans → Lent → Lent
runs_after runs ps lists =
    lent_of (back_in runs.records ps.records lists.records) (back_in runs.investor ps.investor lists.investor)
    (back_in runs.fund ps.fund lists.fund)

-- a row's answer: 1 where it names no call
unfoldable pub row_reply : Work → Row → Reply
row_reply w (call c ps) = (result_of w c ps).reply
row_reply w none = reply 1 0 0

-- what a row leaves
unfoldable pub row_leaves : Work → Row → Work
row_leaves w (call c ps) = record { state = (result_of w c ps).after; runs = runs_after w.runs ps (result_of w c ps).lent }
row_leaves w none = w
