-- `order_structs::order` meets its contract: a writer at the first place of the list is a sink with the list's room, and its records stand at
-- the list's front.
use mathlib.Core.Path.{◌∙◌, ap}
use Rattle.std.proofs.Common.{arith, MutBor}
use Rattle.layout.specs.declared.Record.{Record}
use mathlib.Core.List.{List}
use Rattle.order_structs.proofs.Laws.{writer_answer, writer_book, list_same, list_left, told_left}
use Rattle.order_structs.proofs.order.Goals as goal

pub returns-clause-result_value : goal.returns-clause-result_value
returns-clause-result_value c =
    let day = c.in_ok-day.ensures in
    let w = c.new-writer.ensures in
    (rw day.ok at c.order_into.ensures.result_value)
    ∙ writer_answer _ _ _ day.sound _ _ _ (ap (λ (l : MutBor (List Record)). l.now) w.0) w.1 _ _

pub returns-clause-book : goal.returns-clause-book
returns-clause-book c =
    let day = c.in_ok-day.ensures in
    let w = c.new-writer.ensures in
    (rw day.ok at c.order_into.ensures.book)
    ∙ writer_book _ _ _ day.sound _ _ _ (ap (λ (l : MutBor (List Record)). l.now) w.0) w.1 _ _

pub returns-clause-list : goal.returns-clause-list
returns-clause-list c =
    let day = c.in_ok-day.ensures in
    let w = c.new-writer.ensures in
    let records = rw day.ok at c.order_into.ensures.records in
    let left = list_left _ _ _ day.sound _ _ _ (ap (λ (l : MutBor (List Record)). l.now) w.0) w.1 _ _ records in
    let same = list_same _ _ _ day.sound _ _ _ (ap (λ (l : MutBor (List Record)). l.now) w.0) w.1 _ _ records in
    grind (arith, left, same, w.0)

pub returns-clause-reports : goal.returns-clause-reports
returns-clause-reports c =
    let day = c.in_ok-day.ensures in
    let w = c.new-writer.ensures in
    let e = rw day.ok at c.order_into.ensures in
    told_left _ _ _ day.sound _ _ _ (ap (λ (l : MutBor (List Record)). l.now) w.0) w.1 _ _ e.investor e.fund
