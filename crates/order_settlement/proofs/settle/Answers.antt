-- `order_settlement::settle` meets its contract: the unit, stock, and what is behind it are put one behind another, and together they are the
-- order's records and its reports; what moves with the stock and beside it is all that the order moves.
use mathlib.Core.Path.{refl, ap, ◌∙◌}
use native.Mathlib.Omega.{arith}
use Rattle.layout.specs.declared.Fund.{Fund}
use Rattle.layout.specs.Book.{account}
use Rattle.book.proofs.Whole.{rest_ready, order_is}
use Rattle.order_records.specs.Put.{put_all}
use Rattle.order_records.proofs.Laws.{put_one, put_then, fits_first, fits_next, records_are}
use Rattle.order_reports.specs.declared.Reports.{Reports}
use Rattle.order_reports.proofs.Laws.{left_less, same_run, put_first, fits_here, first_fits, reports_are}
use Rattle.order_settlement.proofs.settle.Goals as goal

pub push-requires : goal.push-requires
push-requires g c =
    let a = c.args in
    let all = records_are a.day.now (account a.day.now a.book.now a.ask.account) a.ask a.m a.cash
    (ap (λ (f : Fund). f.first_code) c.fund-first_code.ensures) c.rest_side-side.ensures c.record_of.ensures in
    omega (arith, rw (← all) at c.requires.writable.room_is)

pub tell_unit-requires : goal.tell_unit-requires
tell_unit-requires g c =
    let a = c.args in
    let all = reports_are a.day.now (account a.day.now a.book.now a.ask.account) a.ask a.m a.cash
    (ap (λ (f : Fund). f.first_code) c.fund-first_code.ensures) c.rest_side-side.ensures in
    first_fits _ all refl c.requires.reports_fit

pub settle_stock-requires-clause-records_fit : goal.settle_stock-requires-clause-records_fit
settle_stock-requires-clause-records_fit g c =
    let a = c.args in
    let less = g.met.S.RecordSink.room_less in
    let all = records_are a.day.now (account a.day.now a.book.now a.ask.account) a.ask a.m a.cash
    (ap (λ (f : Fund). f.first_code) c.fund-first_code.ensures) c.rest_side-side.ensures c.record_of.ensures in
    fits_first _ _ less _ _ _ (fits_next _ _ less _ _ _ (c.push.ensures ∙ put_one _ _ _) (rw (← all) at c.requires.writable.room_is))

pub settle_stock-requires-clause-reports_fit : goal.settle_stock-requires-clause-reports_fit
settle_stock-requires-clause-reports_fit g c =
    let a = c.args in
    let all = reports_are a.day.now (account a.day.now a.book.now a.ask.account) a.ask a.m a.cash
    (ap (λ (f : Fund). f.first_code) c.fund-first_code.ensures) c.rest_side-side.ensures in
    fits_first _ _ left_less _ _ _ (fits_next _ _ left_less _ _ _ (c.tell_unit.ensures ∙ put_one _ _ _) (fits_here _ all refl c.requires.reports_fit))

pub put_after_stock-requires-clause-fits : goal.put_after_stock-requires-clause-fits
put_after_stock-requires-clause-fits g c =
    let a = c.args in
    let less = g.met.S.RecordSink.room_less in
    let all = records_are a.day.now (account a.day.now a.book.now a.ask.account) a.ask a.m a.cash
    (ap (λ (f : Fund). f.first_code) c.fund-first_code.ensures) c.rest_side-side.ensures c.record_of.ensures in
    fits_next _ _ less _ _ _ c.settle_stock.ensures.records (fits_next _ _ less _ _ _ (c.push.ensures ∙ put_one _ _ _) (rw (← all) at c.requires.writable.room_is))

pub tell_cash-requires : goal.tell_cash-requires
tell_cash-requires g c =
    let a = c.args in
    let all = reports_are a.day.now (account a.day.now a.book.now a.ask.account) a.ask a.m a.cash
    (ap (λ (f : Fund). f.first_code) c.fund-first_code.ensures) c.rest_side-side.ensures in
    fits_next _ _ left_less _ _ _ c.settle_stock.ensures.reports (fits_next _ _ left_less _ _ _ (c.tell_unit.ensures ∙ put_one _ _ _) (fits_here _ all refl c.requires.reports_fit))

pub move_rest-requires : goal.move_rest-requires
move_rest-requires g c =
    let a = c.args in
    rw (c.count-count.ensures, c.total.ensures) (rest_ready a.ask.kind a.day.now _ _ _ _ _ _ c.requires.order_ready c.settle_stock.ensures.book)

pub returns-clause-book : goal.returns-clause-book
returns-clause-book g c =
    let a = c.args in
    order_is a.ask.kind a.day.now _ _ _ _ _ _ c.requires.order_ready c.settle_stock.ensures.book _
    (rw (c.count-count.ensures, c.total.ensures) at c.move_rest.ensures)

pub returns-clause-records : goal.returns-clause-records
returns-clause-records g c =
    let a = c.args in
    let all = records_are a.day.now (account a.day.now a.book.now a.ask.account) a.ask a.m a.cash
    (ap (λ (f : Fund). f.first_code) c.fund-first_code.ensures) c.rest_side-side.ensures c.record_of.ensures in
    put_then _ _ _ _ (c.push.ensures ∙ put_one _ _ _) (put_then _ _ _ _ c.settle_stock.ensures.records c.put_after_stock.ensures) ∙ ap (put_all _ _) all

pub returns-clause-investor : goal.returns-clause-investor
returns-clause-investor g c =
    let a = c.args in
    let all = reports_are a.day.now (account a.day.now a.book.now a.ask.account) a.ask a.m a.cash
    (ap (λ (f : Fund). f.first_code) c.fund-first_code.ensures) c.rest_side-side.ensures in
    let told = put_then _ _ _ _ (c.tell_unit.ensures ∙ put_one _ _ _) (put_then _ _ _ _ c.settle_stock.ensures.reports c.tell_cash.ensures) ∙ ap (put_all _ _) all in
    let same = ap (λ (o : Reports). o.run.ghost_name) told ∙ same_run _ _ in
    let stands = ap (λ (o : Reports). o.run.now) told ∙ put_first _ _ refl (fits_here _ refl refl c.requires.reports_fit) in
    grind (arith, same, stands)
