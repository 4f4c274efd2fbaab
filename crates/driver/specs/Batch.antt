-- The driver's whole list of calls: the definitions' run over its rows, and its events.
use Rattle.std.specs.Prelude.{ℕ, zero, suc, ◌*◌, ◌/◌, ◌≡◌, Bool, true, cond, not, List, [], ◌∷◌, ◌++◌, eqb, length}
use Rattle.sequences.specs.Checks.{Reply, reply, check, answered, is_accepted}
use Rattle.sequences.specs.Every.{every}
use Rattle.layout.specs.Places.{row_width, answer_width}
use Rattle.layout.specs.Day.{Day}
use Rattle.rules.specs.Opening.{Opening, opening_reply}
use Rattle.balance.specs.Calls.{State, Event, Happened}
use Rattle.balance.specs.Balanced.{opened, Balanced}
use Rattle.rules.specs.Lent.{Lent}
use Rattle.driver_rows.specs.declared.Work.{Work as Runs}
use Rattle.driver_rows.specs.Lent.{work_in}
use Rattle.driver_rows.specs.Rows.{Row, call, none, row_at, Work, work_of, lent_to, result_of, row_reply, row_leaves}
use Rattle.layout.specs.Answers.{put_reply}

-- what the driver is lent: the work and the answers
pub record Batch : Type 0 where
  pub work : Work
  pub answers : List ℕ

abbrev pub batch_of : Day → List ℕ → List ℕ → Lent → List ℕ → Batch
batch_of d book prices runs answers = record { work = work_of d book prices runs; answers = answers }

-- the same, where the work is lent as a struct
abbrev pub batch_in : Day → Runs → List ℕ → Batch
batch_in d w answers = record { work = work_in d w; answers = answers }

-- one row: the work that it leaves, and its answer in its place
abbrev pub row_done : Batch → Row → ℕ → Batch
row_done b row i =
    record { work = row_leaves b.work row; answers = put_reply b.answers i (row_reply b.work row) }

-- n rows from the i-th on, each on what the one before left
unfoldable pub run_from : List ℕ → ℕ → ℕ → Batch → Batch
run_from rows i zero b = b
run_from rows i (suc n) b = run_from rows (suc i) n (row_done b (row_at rows i) i)

-- the event of a row before those of the rest; a row that names no call has none
unfoldable pub with_event : Work → Row → List Event → List Event
with_event w (call c ps) es = record { call = c; lent = lent_to w ps; result = result_of w c ps } ∷ es
with_event w none es = es

unfoldable pub events_from : List ℕ → ℕ → ℕ → Batch → List Event
events_from rows i zero b = []
events_from rows i (suc n) b = with_event b.work (row_at rows i) (events_from rows (suc i) n (row_done b (row_at rows i) i))

-- so many rows, and refusal 1: the rows are not whole, or have not an answer each
abbrev pub rows_in : List ℕ → ℕ
rows_in rows = length rows / row_width

unfoldable pub rows_fit : ℕ → ℕ → Bool
rows_fit rows answers = every (eqb rows (row_width * (rows / row_width)) ∷ eqb answers (answer_width * (rows / row_width)) ∷ [])

abbrev pub fits : List ℕ → Batch → Bool
fits rows b = rows_fit (length rows) (length b.answers)

unfoldable pub run_reply : List ℕ → Batch → Reply
run_reply rows b = answered (check (not (fits rows b)) 1 0 ∷ []) 0

-- what the driver leaves, and its events
unfoldable pub ran : List ℕ → Batch → Batch
ran rows b = cond (fits rows b) (run_from rows 0 (rows_in rows) b) b

unfoldable pub events_of : List ℕ → Batch → List Event
events_of rows b = cond (fits rows b) (events_from rows 0 (rows_in rows) b) []

-- a row's answer, where the events are those of the row and of the rest: the first one's reply, and 1 where it names no call
unfoldable pub reply_from : Row → List Event → Reply
reply_from (call c ps) [] = reply 1 0 0
reply_from (call c ps) (e ∷ es) = e.result.reply
reply_from none es = reply 1 0 0

-- the events of the rest
unfoldable pub events_past : Row → List Event → List Event
events_past (call c ps) [] = []
events_past (call c ps) (e ∷ es) = es
events_past none es = es

-- the answers after n rows from the i-th on: each has its event's reply in its place
unfoldable pub answers_from : List ℕ → ℕ → ℕ → List Event → List ℕ → List ℕ
answers_from rows i zero es answers = answers
answers_from rows i (suc n) es answers =
    answers_from rows (suc i) n (events_past (row_at rows i) es) (put_reply answers i (reply_from (row_at rows i) es))

unfoldable pub answers_of : List ℕ → List Event → Batch → List ℕ
answers_of rows es b = cond (fits rows b) (answers_from rows 0 (rows_in rows) es b.answers) b.answers

-- Demand 3 of a run: its events lead from the state at its start to the one at its end; and for every accepted opening and
-- every list of events that led from it to the state at the start, all events together balance
pub record Demand3 (s : State) (fs : List Event) (t : State) : Type 0 where
  pub happened : Happened s fs t
  pub balanced : (o : Opening) → is_accepted (opening_reply o) ≡ true → (es : List Event) → Happened (opened o) es s → Balanced o (es ++ fs) t
