-- `order_settlement::settle_lines` meets its contract. The loop's invariant: the stock of the lines below `i` has moved, and their records
-- and reports stand.
use mathlib.Core.Path.{◌≡◌}
use Rattle.layout.specs.Book.{account}
use Rattle.book.specs.Moved.{stock_moves}
use Rattle.order_records.specs.Put.{put_all}
use Rattle.order_records.proofs.Laws.{stock_below}
use Rattle.order_reports.specs.Put.{with_report}
use Rattle.order_reports.proofs.Laws.{told_below}
use Rattle.order_settlement.proofs.settle_lines.Given as goal

abbrev pub invariant-loop-i : goal.invariant-loop-i
invariant-loop-i g l = record {
  moved : l.book ≡ stock_moves l.fn.ask.kind l.day l.fn.ask.account l.m l.i l.initial.book;
  recorded : l.records ≡ put_all g.S.RecordSink.pushed l.initial.records (stock_below l.fn.ask.kind l.day (account l.day l.initial.book l.fn.ask.account) l.m l.i);
  told : l.reports ≡ put_all with_report l.initial.reports (told_below l.fn.ask.kind l.day (account l.day l.initial.book l.fn.ask.account) l.m l.i);
}
