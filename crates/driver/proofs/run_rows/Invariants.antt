-- `driver::run_rows` meets its contract. The loop's invariant: the rows to come, on what is there, give what all
-- give from the start.
use Rattle.layout.specs.Day.{day_at}
use Rattle.driver.proofs.Going.{Going}
use Rattle.driver.proofs.run_rows.Given as goal

abbrev pub invariant-loop-i : goal.invariant-loop-i
invariant-loop-i l =
    Going l.kept (λ day. day.now) (day_at l.run) l.rows l.initial.work l.initial.answers l.i l.work l.answers
