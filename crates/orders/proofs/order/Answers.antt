-- `orders::order` meets its contract: a flat run is a sink, in which the records stand from its first place on.
use mathlib.Core.Path.{refl, ap, ◌∙◌}
use Rattle.std.proofs.Common.{arith}
use Rattle.sequences.specs.Checks.{Reply}
use Rattle.rules.specs.Replies.{if_accepted}
use Rattle.rules.specs.Kinds.{asked_moves}
use Rattle.orders.proofs.Laws.{flat_answer, flat_same, flat_left}
use Rattle.orders.proofs.order.Goals as goal

pub returns-clause-result_value : goal.returns-clause-result_value
returns-clause-result_value c = c.order_into.ensures.result_value ∙ flat_answer _ _ _ _ c.requires.prices_value _ refl _ _

pub returns-clause-book : goal.returns-clause-book
returns-clause-book c =
    let a = c.args in
    c.order_into.ensures.book
    ∙ ap (λ (r : Reply). if_accepted r (asked_moves a.day.now a.prices.now a.ask a.book.now) a.book.now) (flat_answer _ _ _ _ c.requires.prices_value _ refl _ _)

pub returns-clause-lists : goal.returns-clause-lists
returns-clause-lists c =
    let e = c.order_into.ensures in
    let left = flat_left _ _ _ _ c.requires.prices_value _ refl _ _ e.records e.investor e.fund in
    let same = flat_same _ _ _ _ c.requires.prices_value _ refl _ _ e.records in
    grind (arith, left, same)
