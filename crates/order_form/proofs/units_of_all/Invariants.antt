-- `order_form::units_of_all` meets its contract. The invariant: both counts are those of the accounts passed. They fit, as the whole
-- sums do.
use mathlib.Core.Path.{◌≡◌}
use mathlib.Core.List.{[]}
use Rattle.layout.specs.Book.{counter}
use Rattle.layout.specs.Day.{day_of}
use Rattle.rules.specs.Orders.{number_of, opposite_kind}
use Rattle.order_form.proofs.Laws.{heads_below}
use Rattle.order_form.proofs.units_of_all.Given as goal

abbrev pub invariant-loop-a : goal.invariant-loop-a
invariant-loop-a l =
    record {
      made : l.all.made ≡ heads_below (day_of l.head [] []) l.book (counter (number_of l.kind)) l.a;
      reverse : l.all.reverse ≡ heads_below (day_of l.head [] []) l.book (counter (number_of (opposite_kind l.kind))) l.a;
    }
