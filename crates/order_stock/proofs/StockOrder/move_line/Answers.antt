-- `order_stock::StockOrder::move_line` meets its contract: what moves is at most what the baskets need, on a creation what the account has, and on a
-- redemption what the fund has; where it is nothing, every lot stays.
use mathlib.Core.Path.{◌≡◌, ap, ◌∙◌}
use Prim.Native.Nat.{ℕ}
use native.Mathlib.Omega.{arith}
use Rattle.std.specs.Prelude.{Option, Some, None, MatchOption}
use Rattle.sequences.specs.Stretch.{stretch_of}
use Rattle.lots.specs.declared.Lots.{Lots}
use Rattle.flags.specs.Table.{FlagTable}
use Rattle.layout.specs.declared.Component.{Component}
use Rattle.layout.specs.Book.{lots_at}
use Rattle.rules.specs.declared.Kind.{Kind}
use Rattle.book.specs.Moved.{moved_of}
use Rattle.book.proofs.Stock.{moved-le, moved_there}
use Rattle.book.proofs.Turns.{line_none, fund_lots_kept, line_moved}
use Rattle.order_stock.proofs.StockOrder.move_line.Goals as goal

-- what moves, as the code finds it: a number above 0, or none
module _ {Q : Type 0} (get : Q → ℕ) (kind : Kind) (t : FlagTable) (c : Component) (m : ℕ) (x y : Lots) {o : Option Q}
    (told : MatchOption o (moved_of kind t c m x ≡ 0) (λ q. get q ≡ moved_of kind t c m x)) (l : x ≡ y) where
  nothing : o ≡ None → moved_of kind t c m y ≡ 0
  nothing is = rw l at (rw is at told)

  found : (q : Q) (n : ℕ) → o ≡ Some q → n ≡ get q → n ≡ moved_of kind t c m y
  found q n is got = got ∙ (rw is at told) ∙ ap (moved_of kind t c m) l

pub returns-in_err-moved-clause-book : goal.returns-in_err-moved-clause-book
returns-in_err-moved-clause-book c =
    let a = c.args in
    let o = a.self.now in
    let none = nothing _ o.kind _ a.c o.baskets _ _ c.stock_moved.ensures c.lots_of-x.ensures c.in_err-moved.was in
    rw none (line_none o.kind o.width o.account a.line a.book.now c.requires.account_low c.requires.account_in)

pub account_lots-own-requires : goal.account_lots-own-requires
account_lots-own-requires c =
    let a = c.args in
    let o = a.self.now in
    let p = c.requires in
    let own = lots_at (stretch_of o.width a.book.now o.account) a.line in
    rw (found _ _ _ _ _ _ _ c.stock_moved.ensures c.lots_of-x.ensures _ _ c.in_ok-moved.was c.get-q.ensures.value, c.lots_of-x.ensures)
    (record { there = λ k. rw k (moved_there o.table.now a.c o.baskets own); fits = omega (arith, p.need, p.held, moved-le o.table.now a.c o.baskets own o.kind) })

pub fund_lots-fund-requires : goal.fund_lots-fund-requires
fund_lots-fund-requires c =
    let a = c.args in
    let o = a.self.now in
    let p = c.requires in
    let own = lots_at (stretch_of o.width a.book.now o.account) a.line in
    let e = found _ _ _ _ _ _ _ c.stock_moved.ensures c.lots_of-x.ensures _ _ c.in_ok-moved.was c.get-q.ensures.value in
    let kept = fund_lots_kept o.kind o.width o.account a.line a.book.now p.account_low p.account_in _ _ c.put_lots_of.ensures in
    rw (c.lots_of-f.ensures, kept, e) (record { q_le_x = p.delivers; q_bound = omega (arith, p.need, p.room, moved-le o.table.now a.c o.baskets own o.kind) })

pub returns-clause-book : goal.returns-clause-book
returns-clause-book c =
    let p = c.requires in
    rw (← found _ _ _ _ _ _ _ c.stock_moved.ensures c.lots_of-x.ensures _ _ c.in_ok-moved.was c.get-q.ensures.value)
    (line_moved _ _ _ _ _ p.account_low p.account_in _ _ c.put_lots_of.ensures _
    c.lots_of-x.ensures c.account_lots-own.ensures c.lots_of-f.ensures c.fund_lots-fund.ensures c.put_lots_of-2.ensures)
