-- Demand 3 of the driver: the events of its rows happened, and so they balance.
use mathlib.Core.Path.{◌≡◌, refl, sym, subst}
use mathlib.Core.Bool.{true}
use mathlib.Core.List.{List, [], ◌++◌}
use Prim.Native.Nat.{ℕ, zero, suc}
use native.Mathlib.Omega.{arith}
use Rattle.sequences.specs.Checks.{is_accepted}
use Rattle.rules.specs.Opening.{Opening, opening_reply}
use Rattle.balance.specs.Calls.{State, Event, Happened}
use Rattle.balance.specs.Balanced.{opened, Balanced}
use Rattle.balance.proofs.Joined.{happened_joined}
use Rattle.balance.proofs.Whole.{demand_3}
use Rattle.layout.specs.Day.{Day}
use Rattle.driver_rows.specs.declared.Work.{Work as Runs}
use Rattle.driver_rows.specs.Lent.{state_in, work_in, left_work}
use Rattle.driver_rows.specs.Rows.{Row, row_at, Work, row_reply, row_leaves}
use Rattle.driver.proofs.Days.{ran_day, left_of}
use Rattle.driver.specs.Batch.{Batch, batch_in, row_done, run_from, with_event, events_from, ran, events_of, reply_from, events_past, answers_from, answers_of, Demand3}

-- a row's event, and then those of the rest
row_happened : (w : Work) (row : Row) (es : List Event) (t : State) → Happened (row_leaves w row).state es t → Happened w.state (with_event w row es) t
unfolding Happened with_event row_leaves
row_happened w row es t h = grind arith

pub rows_happened : (rows : List ℕ) (i n : ℕ) (b : Batch) → Happened b.work.state (events_from rows i n b) (run_from rows i n b).work.state
unfolding Happened events_from run_from
rows_happened rows i zero b = refl
rows_happened rows i (suc n) b = row_happened b.work (row_at rows i) _ _ (rows_happened rows (suc i) n (row_done b (row_at rows i) i))

pub run_happened : (rows : List ℕ) (b : Batch) → Happened b.work.state (events_of rows b) (ran rows b).work.state
unfolding Happened events_of ran
run_happened rows b = grind (arith, rows_happened)

-- what happened balances, behind all that led to its start
pub all_balanced : (s : State) (fs : List Event) (t : State) → Happened s fs t → Demand3 s fs t
all_balanced s fs t h =
    record {
      happened = h;
      balanced = λ o accepted es g. demand_3 o accepted (es ++ fs) t (happened_joined (opened o) es fs s t g h);
    }

-- so from the opened state on the run's own events balance
pub first_balanced : {s : State} {fs : List Event} {t : State} → Demand3 s fs t → (o : Opening) → is_accepted (opening_reply o) ≡ true → opened o ≡ s → Balanced o fs t
unfolding Happened
first_balanced d o accepted e = d.balanced o accepted [] e

-- and two runs after each other are one
pub runs_joined : {s t u : State} {fs gs : List Event} → Demand3 s fs t → Demand3 t gs u → Demand3 s (fs ++ gs) u
runs_joined {s} {t} {u} {fs} {gs} d e = all_balanced s (fs ++ gs) u (happened_joined s fs gs t u d.happened e.happened)

-- the answers are the events' replies
row_answer : (w : Work) (row : Row) (es : List Event) → (reply_from row (with_event w row es) ≡ row_reply w row) × (events_past row (with_event w row es) ≡ es)
unfolding reply_from events_past with_event row_reply
row_answer w row es = grind arith

rows_answers : (rows : List ℕ) (i n : ℕ) (b : Batch) → (run_from rows i n b).answers ≡ answers_from rows i n (events_from rows i n b) b.answers
unfolding run_from answers_from events_from
rows_answers rows i zero b = refl
rows_answers rows i (suc n) b =
    let row = row_answer b.work (row_at rows i) (events_from rows (suc i) n (row_done b (row_at rows i) i)) in
    rw (row.0, row.1) (rows_answers rows (suc i) n (row_done b (row_at rows i) i))

pub run_answers : (rows : List ℕ) (b : Batch) → (ran rows b).answers ≡ answers_of rows (events_of rows b) b
unfolding ran answers_of events_of
run_answers rows b = grind (arith, rows_answers)

-- the driver's contract from what it leaves
pub run_meets : (d : Day) (rows : List ℕ) (w left : Runs) (answers : List ℕ) → left ≡ left_work w (ran rows (batch_in d w answers)).work
    → Demand3 (state_in d w) (events_of rows (batch_in d w answers)) (state_in d left)
run_meets d rows w left answers e =
    let b = batch_in d w answers in
    let leaves : work_in d left ≡ (ran rows b).work = rw e (left_of d w (ran rows b).work (ran_day rows b)) in
    all_balanced _ _ _ (subst (λ (v : Work). Happened (state_in d w) (events_of rows b) v.state) (sym leaves) (run_happened rows b))
