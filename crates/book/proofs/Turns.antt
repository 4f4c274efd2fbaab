-- The stock of an order line by line: a line that is reached has its lots as they were before the order, and its turn is the
-- definition's.
use mathlib.Core.Path.{◌≡◌, sym, ap, ◌∙◌}
use mathlib.Core.List.{List}
use Prim.Native.Nat.{ℕ, ◌+◌, ◌*◌, ◌≤◌, ◌<◌}
use native.Mathlib.Omega.{arith}
use lib.ListN.{length}
use lib.Seq.{set-get_or}
use Rattle.sequences.specs.Stretch.{stretch_of, on_stretch}
use Rattle.sequences.proofs.Stretch.{stretch-length}
use Rattle.lots.specs.declared.Lots.{Lots}
use Rattle.layout.specs.Day.{Day}
use Rattle.layout.specs.Book.{width, account, lots_at, put_lots, on_line, each_line}
use Rattle.rules.specs.Lines.{component_of}
use Rattle.rules.specs.declared.Kind.{Kind}
use Rattle.rules.specs.Kinds.{moved_by, stock_lots, fund_lots}
use Rattle.layout.proofs.Account.{on_length, each-length, each_later, each_more}
use Rattle.book.specs.Moved.{moved_of, stock_by, fund_by, with_sides, line_moves, stock_moves}
use Rattle.book.specs.Ready.{LineReady, StockReady, FundReady}
use Rattle.book.proofs.Stock.{stock-zero, fund-zero}
use Rattle.book.proofs.Sides.{sides_length, sides_account, sides_fund, sides_again, sides_back, fund_kept, sides_swap, put-lots-length}
use Rattle.book.proofs.Moved.{moved_of_lem}

-- One line.

on_none : (f : Lots → Lots) (l : ℕ) (s : List ℕ) → f (lots_at s l) ≡ lots_at s l → on_line f l s ≡ s
unfolding on_line put_lots lots_at
on_none f l s e = rw e (simp set-get_or)

module _ (kind : Kind) (w a l : ℕ) (b : List ℕ) (low : 0 < a) (fits : a * w + w ≤ length b) where
  -- moving nothing changes nothing
  pub line_none : b ≡ line_moves kind w a l 0 b
  unfolding line_moves
  line_none =
      sym (rw (on_none (λ x. fund_lots kind x 0) l (stretch_of w b 0) (fund-zero kind _), on_none (λ x. stock_lots kind x 0) l (stretch_of w b a) (stock-zero kind _)) (sides_back w a b low fits))

  -- the account's lots stored leave the fund's
  module _ (y : Lots) (t : List ℕ) (et : t ≡ on_stretch w a (λ s. put_lots s l y) b) where
    pub fund_lots_kept : stretch_of w t 0 ≡ stretch_of w b 0
    fund_lots_kept = rw et (fund_kept w a b low fits (put_lots (stretch_of w b a) l y) (put-lots-length (stretch_of w b a) l y ∙ stretch-length w b a fits))

    -- and then the fund's are stored
    pub line_moved : (q : ℕ) {f g x : Lots} {u : List ℕ} → x ≡ lots_at (stretch_of w b a) l → y ≡ stock_lots kind x q → f ≡ lots_at (stretch_of w t 0) l → g ≡ fund_lots kind f q
        → u ≡ on_stretch w 0 (λ s. put_lots s l g) t → u ≡ line_moves kind w a l q b
    unfolding line_moves on_line
    line_moved q ex ey ef eg eu =
        eu
        ∙ rw (eg, ef, fund_lots_kept, et, ey, ex)
        (sides_swap w a b (on_line (λ x. fund_lots kind x q) l (stretch_of w b 0)) (on_line (λ x. stock_lots kind x q) l (stretch_of w b a)) low fits
        (on_length (λ x. fund_lots kind x q) l (stretch_of w b 0) ∙ stretch-length w b 0 (omega arith)))

-- The lines below i.

module _ (kind : Kind) (d : Day) (b : List ℕ) (a m : ℕ) (low : 0 < a) (fits : a * width d + width d ≤ length b) where
  abbrev fund : ℕ → List ℕ
  fund i = each_line (fund_by kind d (account d b a) m) i (account d b 0)

  abbrev own : ℕ → List ℕ
  own i = each_line (stock_by kind d (account d b a) m) i (account d b a)

  pub lines_none : b ≡ stock_moves kind d a m 0 b
  unfolding stock_moves each_line
  lines_none = sym (sides_back (width d) a b low fits)

  pub fund_long : (i : ℕ) → length (fund i) ≡ width d
  fund_long i = each-length (fund_by kind d (account d b a) m) i (account d b 0) ∙ stretch-length (width d) b 0 (omega arith)

  pub own_long : (i : ℕ) → length (own i) ≡ width d
  own_long i = each-length (stock_by kind d (account d b a) m) i (account d b a) ∙ stretch-length (width d) b a fits

  module _ (i : ℕ) (t : List ℕ) (e : t ≡ stock_moves kind d a m i b) where
    is : t ≡ with_sides (width d) a (fund i) (own i) b
    unfolding stock_moves
    is = e

    pub lines-length : length t ≡ length b
    lines-length = rw is (sides_length (width d) a b low fits (fund i) (own i) (fund_long i) (own_long i))

    pub lines_own : stretch_of (width d) t a ≡ own i
    lines_own = rw is (sides_account (width d) a b low fits (fund i) (own i) (fund_long i) (own_long i))

    pub lines_fund : stretch_of (width d) t 0 ≡ fund i
    lines_fund = rw is (sides_fund (width d) a b low fits (fund i) (own i) (fund_long i) (own_long i))

    own_here : lots_at (stretch_of (width d) t a) i ≡ lots_at (account d b a) i
    own_here = rw lines_own (each_later (stock_by kind d (account d b a) m) i (account d b a) i (omega arith))

    fund_here : lots_at (stretch_of (width d) t 0) i ≡ lots_at (account d b 0) i
    fund_here = rw lines_fund (each_later (fund_by kind d (account d b a) m) i (account d b 0) i (omega arith))

    module _ (w : ℕ) (ew : w ≡ width d) where
      -- what moves on the line is what the order moves there
      pub moved_here : moved_of kind d.table (component_of d i) m (lots_at (stretch_of w t a) i) ≡ moved_by kind d (account d b a) m i
      moved_here = rw (ew, own_here) (sym (moved_of_lem kind d (account d b a) m i))

      pub line_ready : StockReady d (account d b a) m → FundReady kind d (account d b a) (account d b 0) m → i < d.count
          → LineReady kind d.table (component_of d i) t w a m i
      line_ready p q l =
          record {
            account_low = low;
            account_in = rw (ew, lines-length) fits;
            line_in_lem = rw ew (omega arith);
            used = p.used i l;
            need = p.needs i l;
            held = rw (ew, own_here) (p.held i l);
            room = rw (ew, fund_here) (q.room i l);
            delivers = λ k. rw moved_here (rw (ew, fund_here) (q.delivers k i l));
          }

      pub lines_more : (q : ℕ) (u : List ℕ) → q ≡ moved_of kind d.table (component_of d i) m (lots_at (stretch_of w t a) i) → u ≡ line_moves kind w a i q t
          → u ≡ stock_moves kind d a m (i + 1) b
      unfolding stock_moves line_moves
      lines_more q u eq eu =
          let f = fund_by kind d (account d b a) m in
          let g = stock_by kind d (account d b a) m in
          rw (each_more f i (account d b 0), each_more g i (account d b a))
          (eu
          ∙ rw (ew, eq ∙ moved_here, lines_fund, lines_own)
          (ap (with_sides (width d) a (on_line (f i) i (fund i)) (on_line (g i) i (own i))) is
          ∙ sides_again (width d) a b low fits (fund i) (own i) (fund_long i) (own_long i) (on_line (f i) i (fund i)) (on_line (g i) i (own i)) (on_length (f i) i (fund i) ∙ fund_long i)))
