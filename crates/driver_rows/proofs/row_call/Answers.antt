-- `driver_rows::row_call` meets its contract: 1 where the row names no call, and 5 where the day is not sound.
use mathlib.Core.Path.{sym, ap, ◌∙◌}
use Rattle.std.specs.Prelude.{is_some}
use Rattle.layout.specs.Day.{day_at}
use Rattle.driver_rows.proofs.Known.{not_first, not_second, none_told}
use Rattle.driver_rows.proofs.Rows.{none_meets, named_meets}
use Rattle.driver_rows.proofs.row_call.Goals.{in-Some-known, in-None}
use Rattle.driver_rows.proofs.row_call.Goals as goal

pub returns-in_default : goal.returns-in_default
returns-in_default c =
    let met = none_meets (day_at c.args.run.now) c.args.work.now in
    rw (← c.in_default.ensures) (record { result_value = c.from.ensures ∙ met.0; left = met.1 })

pub returns-in-None-or : goal.returns-in-None-or
returns-in-None-or c =
    let none = sym c.or.ensures ∙ c.in-None-or.is in
    elim c.match-known.branch [
      | in-Some-known w ↦ absurd (not_first _ _ _ none w.in-Some-known.is)
      | in-None w ↦
          let untested = ap is_some (sym w.tested-is) ∙ sym c.as_ref.ensures.variant ∙ not_second _ _ none in
          let unsound = none_told _ _ _ untested w.sound_day-tested.ensures in
          let met = named_meets _ c.args.work.now unsound c.args.row.now c.in-Some.call in
          rw (← c.in-Some.ensures) (record { result_value = c.from-in-None-or.ensures ∙ met.0; left = met.1 })
    ]
