-- `driver_rows::make` meets its contract: what the core of each call answers and leaves is what the definitions say of the call.
use mathlib.Core.Path.{◌∙◌}
use Rattle.calls.proofs.Laws.{price_own, prices_own, trade_own, traded_own, prices_long, book_fits}
use Rattle.driver_rows.proofs.Rows.{price_meets, trade_meets, value_meets}
use Rattle.driver_rows.specs.Rows.{row_reply}
use Rattle.driver_rows.proofs.make.Goals as goal

pub set_price-requires : goal.set_price-requires
set_price-requires c = prices_long _ _ _ c.requires.sound

pub trade-requires : goal.trade-requires
trade-requires c = book_fits _ _ _ c.requires.sound

pub returns-in-Price : goal.returns-in-Price
returns-in-Price c =
    let s = c.requires.sound in
    let met = price_meets _ c.args.work.now _ _ _ _
    (c.from.ensures ∙ c.set_price.ensures.result_value ∙ price_own _ _ _ s _ _)
    (c.set_price.ensures.prices ∙ prices_own _ _ _ s _ _) in
    rw c.in-Price.is (record { result_value = met.0; left = met.1 })

pub returns-in-Trade : goal.returns-in-Trade
returns-in-Trade c =
    let s = c.requires.sound in
    let met = trade_meets _ c.args.work.now _ _ _ _ _ _ _
    (c.from-in-Trade.ensures ∙ c.trade.ensures.result_value ∙ trade_own _ _ _ s _ _ _ _ _)
    (c.trade.ensures.book ∙ traded_own _ _ _ s _ _ _ _ _) in
    rw c.in-Trade.is (record { result_value = met.0; left = met.1 })

pub returns-in-Order-clause-result_value : goal.returns-in-Order-clause-result_value
unfolding row_reply
returns-in-Order-clause-result_value c = rw c.in-Order.is (rw c.spans_in.ensures at c.order_row.ensures.result_value)

pub returns-in-Value : goal.returns-in-Value
returns-in-Value c =
    let met = value_meets c.args.day.now c.args.work.now _ (c.from-in-Value.ensures ∙ c.reference_value.ensures) in
    rw c.in-Value.is (record { result_value = met.0; left = met.1 })
