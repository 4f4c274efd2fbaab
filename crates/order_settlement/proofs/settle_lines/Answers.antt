use mathlib.Core.Path.{◌≡◌, refl, ap, ◌∙◌}
use native.Mathlib.Omega.{arith}
use Rattle.std.proofs.Math.Nat.{le_trans}
use Rattle.layout.specs.Book.{width_of}
use Rattle.book.proofs.Turns.{lines_none, moved_here, line_ready, lines_more}
use Rattle.order_records.proofs.Laws.{put_none, put_then, fits_next, stock_none, stock_more, stock_all, stock_grows, quantity_told}
use Rattle.order_reports.proofs.Laws.{left_less, told_none, told_more, told_all, told_grows}
use Rattle.order_settlement.proofs.settle_lines.Goals as goal

pub loop-i-init : goal.loop-i-init
loop-i-init g c =
    let p = c.requires in
    record {
      moved = lines_none _ _ _ _ _ p.account_nonzero.0 p.account_nonzero.1;
      recorded = rw (stock_none _ _ _ _) (put_none _ _);
      told = rw (told_none _ _ _ _) (put_none _ _);
    }

pub move_line-moved-requires : goal.move_line-moved-requires
move_line-moved-requires g c =
    let a = c.args in
    let p = c.requires in
    rw (c.component-c.ensures, c.table.ensures)
    (line_ready a.ask.kind a.day.now _ _ _ p.account_nonzero.0 p.account_nonzero.1 _ _ c.loop-i.invariant.moved _
    (c.width_of-width.ensures ∙ ap width_of c.count-count.ensures) p.stock_ready p.fund_ready (omega (arith, c.count-count.ensures)))

pub put_line-requires : goal.put_line-requires
put_line-requires g c =
    let a = c.args in
    let p = c.requires in
    let less = g.met.S.RecordSink.room_less in
    let moved = moved_here a.ask.kind a.day.now _ _ _ p.account_nonzero.0 p.account_nonzero.1 _ _ c.loop-i.invariant.moved _ (c.width_of-width.ensures ∙ ap width_of c.count-count.ensures) in
    rw (quantity_told _ _ _ c.move_line-moved.ensures.value, c.component-c.ensures, c.stock_side-side.ensures, c.table.ensures, moved)
    (fits_next _ _ less _ _ _ c.loop-i.invariant.recorded (le_trans (stock_grows a.ask.kind a.day.now _ _ (omega (arith, c.count-count.ensures))) p.records_fit))

pub tell_line-requires : goal.tell_line-requires
tell_line-requires g c =
    let a = c.args in
    let p = c.requires in
    let moved = moved_here a.ask.kind a.day.now _ _ _ p.account_nonzero.0 p.account_nonzero.1 _ _ c.loop-i.invariant.moved _ (c.width_of-width.ensures ∙ ap width_of c.count-count.ensures) in
    rw (quantity_told _ _ _ c.move_line-moved.ensures.value, c.component-c.ensures, c.stock_side-side.ensures, c.table.ensures, moved)
    (fits_next _ _ left_less _ _ _ c.loop-i.invariant.told (le_trans (told_grows a.ask.kind a.day.now _ _ (omega (arith, c.count-count.ensures))) p.reports_fit))

pub loop-i-preserved : goal.loop-i-preserved
loop-i-preserved g c =
    let a = c.args in
    let p = c.requires in
    let l = c.loop-i in
    let wide = c.width_of-width.ensures ∙ ap width_of c.count-count.ensures in
    let here = moved_here a.ask.kind a.day.now _ _ _ p.account_nonzero.0 p.account_nonzero.1 _ _ l.invariant.moved _ wide in
    let quantity = quantity_told _ _ _ c.move_line-moved.ensures.value in
    let book = rw (c.component-c.ensures, c.table.ensures) at c.move_line-moved.ensures.book in
    let record_put = rw (quantity, c.component-c.ensures, c.stock_side-side.ensures, c.table.ensures, here) at c.put_line.ensures in
    let report_put = rw (quantity, c.component-c.ensures, c.stock_side-side.ensures, c.table.ensures, here) at c.tell_line.ensures in
    record {
      moved = lines_more a.ask.kind a.day.now _ _ _ p.account_nonzero.0 p.account_nonzero.1 _ _ l.invariant.moved _ wide _ _ refl book;
      recorded = rw (stock_more a.ask.kind a.day.now _ _ _) (put_then _ _ _ _ l.invariant.recorded record_put);
      told = rw (told_more a.ask.kind a.day.now _ _ _) (put_then _ _ _ _ l.invariant.told report_put);
    }

pub returns-clause-records : goal.returns-clause-records
returns-clause-records g c =
    let l = c.loop-i in
    let e : l.i ≡ c.args.day.now.count = omega (arith, c.count-count.ensures) in
    rw (← stock_all c.args.ask.kind c.args.day.now _ c.args.m) (rw e at l.invariant.recorded)

pub returns-clause-reports : goal.returns-clause-reports
returns-clause-reports g c =
    let l = c.loop-i in
    let e : l.i ≡ c.args.day.now.count = omega (arith, c.count-count.ensures) in
    rw (← told_all c.args.ask.kind c.args.day.now _ c.args.m) (rw e at l.invariant.told)
