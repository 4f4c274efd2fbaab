-- `driver_rows::order_row` meets its contract: the parts lent are the row's, and what comes back stands in their place.
use mathlib.Core.Path.{◌∙◌}
use Rattle.rules.specs.Lent.{lent_of}
use Rattle.driver_rows.proofs.Rows.{part_answers, part_leaves}
use Rattle.driver_rows.proofs.order_row.Goals as goal

pub returns-clause-result_value : goal.returns-clause-result_value
returns-clause-result_value c =
    let a = c.args in
    part_answers _ _ _ (lent_of a.records.now a.investor.now a.fund.now) a.ask a.lists _ _ _ _ _ _
    (c.within-r.ensures.start_value, c.within-r.ensures.end) (c.within-i.ensures.start_value, c.within-i.ensures.end)
    (c.within-f.ensures.start_value, c.within-f.ensures.end) _ (c.from.ensures ∙ c.order_in-answer.ensures.result_value)

pub returns-clause-left : goal.returns-clause-left
returns-clause-left c =
    let a = c.args in
    part_leaves _ _ _ (lent_of a.records.now a.investor.now a.fund.now) a.ask a.lists _ _ _ _ _ _
    (c.within-r.ensures.start_value, c.within-r.ensures.end) (c.within-i.ensures.start_value, c.within-i.ensures.end)
    (c.within-f.ensures.start_value, c.within-f.ensures.end) _ _ _ _ c.order_in-answer.ensures.book c.order_in-answer.ensures.lists
