-- No row changes the day, and so the runs that a list of rows leaves say what it leaves.
use mathlib.Core.Path.{◌≡◌, refl, ◌∙◌}
use mathlib.Core.List.{List}
use Prim.Native.Nat.{ℕ, zero, suc}
use native.Mathlib.Omega.{arith}
use Rattle.layout.specs.Day.{Day}
use Rattle.balance.specs.Calls.{step}
use Rattle.driver_rows.specs.declared.Work.{Work as Runs}
use Rattle.driver_rows.specs.Lent.{work_in, left_work}
use Rattle.driver_rows.specs.Rows.{Row, row_at, Work, row_leaves}
use Rattle.rules.specs.Lent.{lent_of}
use Rattle.driver.specs.Batch.{Batch, batch_of, row_done, run_from, ran}

pub row_day : (w : Work) (row : Row) → (row_leaves w row).state.day ≡ w.state.day
unfolding row_leaves step
row_day w row = grind arith

run_day : (rows : List ℕ) (i n : ℕ) (b : Batch) → (run_from rows i n b).work.state.day ≡ b.work.state.day
unfolding run_from
run_day rows i zero b = refl
run_day rows i (suc n) b = run_day rows (suc i) n (row_done b (row_at rows i) i) ∙ row_day b.work (row_at rows i)

pub ran_day : (rows : List ℕ) (b : Batch) → (ran rows b).work.state.day ≡ b.work.state.day
unfolding ran
ran_day rows b = grind (arith, run_day)

-- Runs that are left as a work of the day says it.
pub left_of : (d : Day) (w : Runs) (x : Work) → x.state.day ≡ d → work_in d (left_work w x) ≡ x
left_of d w x e = rw (← e) refl

-- What a list of rows leaves, run by run.
batch_is : {d : Day} {book prices records investor fund answers : List ℕ} (x : Batch) → x.work.state.day ≡ d → book ≡ x.work.state.book
    → prices ≡ x.work.state.prices → records ≡ x.work.runs.records → investor ≡ x.work.runs.investor → fund ≡ x.work.runs.fund → answers ≡ x.answers
    → batch_of d book prices (lent_of records investor fund) answers ≡ x
batch_is x e p q r s t u = rw (p, q, r, s, t, u, ← e) refl

pub batch_left : {d : Day} {book prices records investor fund answers : List ℕ} (rows : List ℕ) (b : Batch) → b.work.state.day ≡ d
    → book ≡ (ran rows b).work.state.book → prices ≡ (ran rows b).work.state.prices → records ≡ (ran rows b).work.runs.records
    → investor ≡ (ran rows b).work.runs.investor → fund ≡ (ran rows b).work.runs.fund → answers ≡ (ran rows b).answers
    → batch_of d book prices (lent_of records investor fund) answers ≡ ran rows b
batch_left rows b e p q r s t u = batch_is (ran rows b) (ran_day rows b ∙ e) p q r s t u
