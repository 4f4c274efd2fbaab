-- `orders::order_into` meets its contract: the tests have the answer, and only an accepted order is moved, its records put, and its reports
-- told to the investor and then to the fund.
use mathlib.Core.Path.{refl, sym, ap, ◌∙◌}
use Rattle.order_tests.specs.Tests.{accepted_reply}
use Rattle.rules.proofs.Replies.{leaves_after}
use Rattle.orders.proofs.Laws.{answer_by_room, order_ready, order_writable, order_told, records_left, investor_told, mirrorable, fund_told}
use Rattle.orders.proofs.order_into.Goals as goal

pub settle-requires : goal.settle-requires
settle-requires g c =
    let a = c.args in
    let made = ap accepted_reply (sym c.in_ok-accepted.was) ∙ answer_by_room _ _ _ _ a.investor.now a.fund.now c.order_tested.ensures.answer_value c.room.ensures in
    let whole = c.requires.prices_value in
    record {
      order_ready = order_ready _ _ _ _ (g.S.RecordSink.room a.records.now) a.investor.now a.fund.now whole _ made _ c.baskets_in-m.ensures _ c.in_ok-accepted.ensures.cash;
      writable = order_writable _ _ _ _ (g.S.RecordSink.room a.records.now) a.investor.now a.fund.now whole _ made _ c.baskets_in-m.ensures _ c.in_ok-accepted.ensures.cash;
      reports_fit = order_told _ _ _ _ (g.S.RecordSink.room a.records.now) a.investor.now a.fund.now whole _ made _ c.baskets_in-m.ensures _ c.in_ok-accepted.ensures.cash;
    }

pub mirror-requires : goal.mirror-requires
mirror-requires g c =
    let a = c.args in
    let made = ap accepted_reply (sym c.in_ok-accepted.was) ∙ answer_by_room _ _ _ _ a.investor.now a.fund.now c.order_tested.ensures.answer_value c.room.ensures in
    mirrorable _ _ _ _ (g.S.RecordSink.room a.records.now) a.investor.now a.fund.now c.requires.prices_value _ made _ c.baskets_in-m.ensures _ c.in_ok-accepted.ensures.cash
    c.settle.ensures.investor

pub returns-clause-records : goal.returns-clause-records
returns-clause-records g c =
    let a = c.args in
    let made = ap accepted_reply (sym c.in_ok-accepted.was) ∙ answer_by_room _ _ _ _ a.investor.now a.fund.now c.order_tested.ensures.answer_value c.room.ensures in
    records_left _ _ _ _ (g.S.RecordSink.room a.records.now) a.investor.now a.fund.now c.requires.prices_value _ made _ c.baskets_in-m.ensures _ c.in_ok-accepted.ensures.cash
    _ _ c.settle.ensures.records
    ∙ leaves_after _ _ _ _ refl made

pub returns-clause-investor : goal.returns-clause-investor
returns-clause-investor g c =
    let a = c.args in
    let made = ap accepted_reply (sym c.in_ok-accepted.was) ∙ answer_by_room _ _ _ _ a.investor.now a.fund.now c.order_tested.ensures.answer_value c.room.ensures in
    investor_told _ _ _ _ (g.S.RecordSink.room a.records.now) a.investor.now a.fund.now c.requires.prices_value _ made _ c.baskets_in-m.ensures _ c.in_ok-accepted.ensures.cash
    c.settle.ensures.investor
    ∙ leaves_after _ a.investor.now _ _ refl made

pub returns-clause-fund : goal.returns-clause-fund
returns-clause-fund g c =
    let a = c.args in
    let made = ap accepted_reply (sym c.in_ok-accepted.was) ∙ answer_by_room _ _ _ _ a.investor.now a.fund.now c.order_tested.ensures.answer_value c.room.ensures in
    let told = investor_told _ _ _ _ (g.S.RecordSink.room a.records.now) a.investor.now a.fund.now c.requires.prices_value _ made _ c.baskets_in-m.ensures _ c.in_ok-accepted.ensures.cash
    c.settle.ensures.investor in
    fund_told _ _ _ _ (g.S.RecordSink.room a.records.now) a.investor.now a.fund.now c.requires.prices_value _ made _ c.baskets_in-m.ensures _ c.in_ok-accepted.ensures.cash
    told c.mirror.ensures
    ∙ leaves_after _ a.fund.now _ _ refl made
