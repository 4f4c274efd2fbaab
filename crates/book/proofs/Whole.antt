-- An order's stages one after the other: what each leaves for the next, and that together they are the definition.
use mathlib.Core.Path.{◌≡◌, sym, ap, ◌∙◌}
use mathlib.Core.List.{List, ◌++◌}
use Prim.Native.Nat.{ℕ, ◌+◌, ◌*◌, ◌≤◌}
use native.Mathlib.Omega.{arith}
use lib.ListN.{length, take, drop}
use Rattle.sequences.specs.Stretch.{stretch_of, on_stretch}
use Rattle.sequences.proofs.Stretch.{stretch-length, put-length}
use Rattle.lots.specs.declared.Lots.{Lots}
use Rattle.layout.specs.Day.{Day}
use Rattle.layout.specs.Book.{cash, width_of, width, account, head_at, put_head, lots_at, each_line, counter}
use Rattle.rules.specs.declared.Kind.{Kind}
use Rattle.rules.specs.Orders.{number_of, account_side, fund_side}
use Rattle.rules.specs.Kinds.{unit_lots, account_cash, fund_cash, order_moves}
use Rattle.layout.proofs.Account.{put-head-length, head_each, each_later}
use Rattle.rules.proofs.Sides.{number-below, fund-length}
use Rattle.book.specs.Moved.{stock_by, fund_by, with_sides, stock_moves, rest_of, rest_moves}
use Rattle.book.specs.Ready.{AccountRest, RestReady, OrderReady}
use Rattle.book.proofs.Sides.{account_kept, first_is, first_put, sides_by, sides_again}
use Rattle.book.proofs.Turns.{fund_long, own_long, lines-length, lines_own, lines_fund}

-- the book t when the fund's cash has moved, in a fund of n components
module _ (kind : Kind) (n : ℕ) (b : List ℕ) (a units c w : ℕ) (t : List ℕ) (p : RestReady kind n b a units c) (ew : w ≡ width_of n)
    (et : t ≡ put_head cash (fund_cash kind (head_at (take w b) cash) c) (take w b) ++ drop w b) where
  abbrev paid : List ℕ → List ℕ
  paid s = put_head cash (fund_cash kind (head_at s cash) c) s

  paid_long : length (paid (stretch_of (width_of n) b 0)) ≡ width_of n
  paid_long = put-head-length cash _ (stretch_of (width_of n) b 0) ∙ stretch-length (width_of n) b 0 (omega (arith, p.account_in))

  is : t ≡ on_stretch (width_of n) 0 paid b
  is = et ∙ first_put w b _ ∙ rw (first_is w b, ew)

  account_same : stretch_of (width_of n) t a ≡ stretch_of (width_of n) b a
  account_same = rw is (account_kept (width_of n) a b p.account_low p.account_in (paid (stretch_of (width_of n) b 0)) paid_long)

  t_size : length t ≡ length b
  t_size = rw is (put-length (width_of n) b 0 (paid (stretch_of (width_of n) b 0)) (omega (arith, p.account_in)) paid_long)

  pub account_rest_ready : (a * w + w ≤ length t) × AccountRest kind n (stretch_of w t a) units c
  account_rest_ready = rw (ew, account_same, t_size) (p.account_in, p.rest)

  pub rest_moved : (u : List ℕ) → u ≡ on_stretch w a (rest_of kind n units c) t → u ≡ rest_moves kind n a units c b
  unfolding rest_moves
  rest_moved u eu =
      eu
      ∙ rw ew
      (ap (on_stretch (width_of n) a (rest_of kind n units c)) is
      ∙ sides_by (width_of n) a b p.account_low p.account_in paid (rest_of kind n units c) paid_long)

-- the book t when its stock has moved
module _ (kind : Kind) (d : Day) (b : List ℕ) (a units m c : ℕ) (t : List ℕ) (p : OrderReady kind d b a units m c) (et : t ≡ stock_moves kind d a m d.count b) where
  abbrev f : ℕ → Lots → Lots
  f = fund_by kind d (account d b a) m

  abbrev g : ℕ → Lots → Lots
  g = stock_by kind d (account d b a) m

  abbrev fund : List ℕ
  fund = each_line (fund_by kind d (account d b a) m) d.count (account d b 0)

  abbrev own : List ℕ
  own = each_line (stock_by kind d (account d b a) m) d.count (account d b a)

  own_is : stretch_of (width d) t a ≡ own
  own_is = lines_own kind d b a m p.account_low p.account_in d.count t et

  fund_is : stretch_of (width d) t 0 ≡ fund
  fund_is = lines_fund kind d b a m p.account_low p.account_in d.count t et

  pub rest_ready : RestReady kind d.count t a units c
  rest_ready =
      let r = p.rest in
      let unit : lots_at own d.count ≡ lots_at (account d b a) d.count = each_later g d.count (account d b a) d.count (omega arith) in
      let money : head_at own cash ≡ head_at (account d b a) cash = head_each g d.count (account d b a) cash (omega arith) in
      let counter : head_at own (counter (number_of kind)) ≡ head_at (account d b a) (counter (number_of kind)) =
      head_each g d.count (account d b a) (counter (number_of kind)) (omega (arith, number-below kind)) in
      let fund-money : head_at fund cash ≡ head_at (account d b 0) cash = head_each f d.count (account d b 0) cash (omega arith) in
      record {
        count_high = p.stock.count_high;
        account_low = p.account_low;
        account_in = rw (lines-length kind d b a m p.account_low p.account_in d.count t et) p.account_in;
        rest =
            rw own_is
            (record {
              line_in_lem = omega (arith, own_long kind d b a m p.account_low p.account_in d.count);
              lots = rw unit r.lots;
              money = rw money r.money;
              count_fits = rw counter r.count_fits;
            });
        fund_money = rw (fund_is, fund-money) p.fund_money;
      }

  fund_side_lem : put_head cash (fund_cash kind (head_at fund cash) c) fund ≡ fund_side d.count f (fund_cash kind (head_at (account d b 0) cash) c) (account d b 0)
  unfolding fund_side
  fund_side_lem = rw (head_each f d.count (account d b 0) cash (omega arith))

  account_side_lem : rest_of kind d.count units c own
      ≡ account_side d.count kind units g (λ x. unit_lots kind x units) (account_cash kind (head_at (account d b a) cash) c) (account d b a)
  unfolding rest_of account_side
  account_side_lem = rw (head_each g d.count (account d b a) cash (omega arith), head_each g d.count (account d b a) (counter (number_of kind)) (omega (arith, number-below kind)))

  pub order_is : (u : List ℕ) → u ≡ rest_moves kind d.count a units c t → u ≡ order_moves kind d a units m c b
  unfolding rest_moves stock_moves order_moves
  order_is u eu =
      let w = width d in
      let paid = put_head cash (fund_cash kind (head_at fund cash) c) fund in
      let paid_long : length (put_head cash (fund_cash kind (head_at fund cash) c) fund) ≡ width d = put-head-length cash _ fund ∙ fund_long kind d b a m p.account_low p.account_in d.count in
      eu
      ∙ rw (fund_is, own_is)
      (ap (with_sides w a paid (rest_of kind d.count units c own)) et
      ∙ sides_again w a b p.account_low p.account_in fund own (fund_long kind d b a m p.account_low p.account_in d.count)
      (own_long kind d b a m p.account_low p.account_in d.count) paid (rest_of kind d.count units c own) paid_long
      ∙ rw (fund_side_lem, account_side_lem)
      (sym (sides_by w a b p.account_low p.account_in
      (λ x. fund_side d.count f (fund_cash kind (head_at x cash) c) x)
      (λ x. account_side d.count kind units g (λ y. unit_lots kind y units) (account_cash kind (head_at x cash) c) x)
      (fund-length d.count f (fund_cash kind (head_at (account d b 0) cash) c) (account d b 0) ∙ stretch-length w b 0 (omega (arith, p.account_in))))))
