-- Refusal 1 of the driver, and what it leaves in both cases.
use mathlib.Core.Path.{◌≡◌, refl}
use mathlib.Core.Bool.{true, false}
use mathlib.Core.List.{List}
use Prim.Native.Nat.{ℕ, ◌*◌, ◌/◌}
use borrow.Author.Tests.{eqb-true}
use Rattle.layout.specs.Places.{row_width, answer_width}
use Rattle.sequences.specs.Checks.{reply, answering}
use Rattle.sequences.proofs.Every.{every_at}
use Rattle.driver.specs.Batch.{Batch, run_from, rows_in, rows_fit, fits, run_reply, ran}

pub fit_facts : (rows answers : ℕ) → rows_fit rows answers ≡ true → (rows ≡ row_width * (rows / row_width)) × (answers ≡ answer_width * (rows / row_width))
unfolding rows_fit
fit_facts rows answers e = (eqb-true rows (row_width * (rows / row_width)) (every_at _ e 0), eqb-true answers (answer_width * (rows / row_width)) (every_at _ e 1))

pub run_refused : (rows : List ℕ) (b : Batch) → fits rows b ≡ false → (reply 1 0 0 ≡ run_reply rows b) × (b ≡ ran rows b)
unfolding run_reply ran answering
run_refused rows b e = rw e (refl, refl)

pub run_done : (rows : List ℕ) (b left : Batch) → fits rows b ≡ true → left ≡ run_from rows 0 (rows_in rows) b → (reply 0 0 0 ≡ run_reply rows b) × (left ≡ ran rows b)
unfolding run_reply ran answering
run_done rows b left e f = rw e (refl, f)
