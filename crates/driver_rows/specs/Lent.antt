-- What the calls of a list work on, as the runs that are lent.
use Rattle.layout.specs.Day.{Day}
use Rattle.rules.specs.Lent.{lent_of}
use Rattle.driver_rows.specs.declared.Work.{Work as Runs}
use Rattle.balance.specs.Calls.{State}
use Rattle.driver_rows.specs.Rows.{Work, state_of, work_of}

-- the state that they say, on a day, and the work
abbrev pub state_in : Day → Runs → State
state_in d w = state_of d w.book.now w.prices.now

abbrev pub work_in : Day → Runs → Work
work_in d w = work_of d w.book.now w.prices.now (lent_of w.records.now w.investor.now w.fund.now)

-- the same runs, in which other numbers stand
abbrev pub left_work : Runs → Work → Runs
left_work w left =
    record w {
      book = record w.book { now = left.state.book };
      prices = record w.prices { now = left.state.prices };
      records = record w.records { now = left.runs.records };
      investor = record w.investor { now = left.runs.investor };
      fund = record w.fund { now = left.runs.fund };
    }
