-- The loop over the rows: what is done and what is to come, the kept property, and the answers' length.
use mathlib.Core.Path.{◌≡◌, refl, sym, ap, subst, ◌∙◌}
use mathlib.Core.Bool.{true}
use mathlib.Core.List.{List, []}
use Prim.Native.Nat.{ℕ, zero, suc, ◌+◌, ◌-◌, ◌<◌, ◌≤◌}
use native.Mathlib.Omega.{arith}
use native.Mathlib.Nat.{suc-mul, zero-mul}
use lib.ListN.{length, get_or, take, drop, length-set}
use lib.Seq.{drop-drop}
use Rattle.std.specs.Prelude.{Option, Some, None, IfSome}
use Rattle.std.specs.Simd.{first_chunks}
use Rattle.sequences.specs.Checks.{Reply}
use Rattle.sequences.specs.Stretch.{stretch_of}
use Rattle.layout.specs.Places.{row_width}
use Rattle.layout.specs.Day.{Day}
use Rattle.layout.specs.Answers.{put_reply}
use Rattle.rules.specs.Sound.{is_sound, is_kept}
use Rattle.rules.proofs.SoundDay.{kept_facts, sound-true}
use Rattle.balance.proofs.Theorems.{KeptState, kept_step}
use Rattle.driver_rows.specs.declared.Work.{Work as Runs}
use Rattle.driver_rows.specs.Lent.{state_in, work_in, left_work}
use Rattle.driver_rows.specs.Rows.{Row, call, none, row_of, row_at, Work, lent_to, row_reply, row_leaves}
use Rattle.driver.proofs.Days.{row_day, left_of}
use Rattle.driver.specs.Batch.{Batch, batch_in, row_done, run_from, rows_in}

-- A row keeps the kept property.
pub row_keeps : (w : Work) (row : Row) → KeptState w.state → KeptState (row_leaves w row).state
unfolding row_leaves
row_keeps w (call c ps) k = kept_step w.state c (lent_to w ps) k
row_keeps w none k = k

-- The i-th of the first k rows.
pub row_there : (width k : ℕ) (rows : List ℕ) (i : ℕ) → i < k → get_or (first_chunks width k rows) i [] ≡ stretch_of width rows i
unfolding stretch_of
row_there width zero rows i h = absurd (omega (arith, h))
row_there width (suc k) rows zero h = rw (zero-mul width) refl
row_there width (suc k) rows (suc i) h =
    row_there width k (drop width rows) i (omega (arith, h)) ∙ rw drop-drop (ap (λ (n : ℕ). take width (drop n rows)) (rw suc-mul (omega arith)))

-- what holds of all that an option may be holds where it stands
pub some_all : {K : Type 0} (o : Option K) (P : K → Type 0) → ((x : K) → o ≡ Some x → P x) → IfSome o P
some_all None P all = tt
some_all (Some x) P all = all x refl

-- `kept` is the day, where it is known to be kept sound, in the form in which the code has it at hand, and `view` what that is.
module _ {K : Type 0} (kept : Option K) (view : K → Day) (d : Day) (rows : List ℕ) (w₀ : Runs) (a₀ : List ℕ) where
  abbrev b₀ : Batch
  b₀ = batch_in d w₀ a₀

  -- Such runs and answers after the first i rows.
  pub record Going (i : ℕ) (w : Runs) (a : List ℕ) : Type 0 where
    pub within : i ≤ rows_in rows
    pub done : run_from rows i (rows_in rows - i) (batch_in d w a) ≡ run_from rows 0 (rows_in rows) b₀
    pub same : w ≡ left_work w₀ (work_in d w)
    pub still : (e : K) → kept ≡ Some e → (view e ≡ d) × KeptState (state_in d w)
    pub answers : length a ≡ length a₀

  pub going_starts : IfSome kept (λ e. (view e ≡ d) × (is_kept d w₀.book.now w₀.prices.now ≡ true)) → Going 0 w₀ a₀
  going_starts known =
      record {
        within = omega arith;
        done = ap (λ (n : ℕ). run_from rows 0 n b₀) (omega arith);
        same = refl;
        still = λ e is. let k = rw is at known in (k.0, kept_facts _ _ _ k.1);
        answers = refl;
      }

  module _ (i : ℕ) (w : Runs) (a : List ℕ) (g : Going i w a) where
    pub going_sound : (e : K) → kept ≡ Some e → (view e ≡ d) × (is_sound d w.book.now w.prices.now ≡ true)
    going_sound e is = ((g.still e is).0, sound-true _ _ _ (g.still e is).1.sound)

    pub going_on : (x : List ℕ) → i < rows_in rows → x ≡ stretch_of row_width rows i → (w' : Runs) (a' : List ℕ) (r : Reply) (j : ℕ) → j ≡ i + 1
        → w' ≡ left_work w (row_leaves (work_in d w) (row_of x)) → r ≡ row_reply (work_in d w) (row_of x) → a' ≡ put_reply a i r → Going j w' a'
    unfolding run_from put_reply
    going_on x inside row w' a' r j q e f p =
        let next : j ≡ suc i = omega (arith, q) in
        let one_less : suc (rows_in rows - suc i) ≡ rows_in rows - i = omega arith in
        let works : work_in d w' ≡ row_leaves (work_in d w) (row_of x) = rw e (left_of d w (row_leaves (work_in d w) (row_of x)) (row_day (work_in d w) (row_of x))) in
        let batch : batch_in d w' a' ≡ row_done (batch_in d w a) (row_at rows i) i = rw (works, p, f, ← row) refl in
        rw next (record {
          within = omega arith;
          done = ap (run_from rows (suc i) (rows_in rows - suc i)) batch ∙ ap (λ (n : ℕ). run_from rows i n (batch_in d w a)) one_less ∙ g.done;
          same = e ∙ ap (λ (v : Runs). left_work v (row_leaves (work_in d w) (row_of x))) g.same ∙ ap (left_work w₀) (sym works);
          still = λ z is. ((g.still z is).0, subst (λ (v : Work). KeptState v.state) (sym works) (row_keeps (work_in d w) (row_of x) (g.still z is).1));
          answers = rw (p, length-set, length-set, length-set, length-set) g.answers;
        })

    pub going_done : rows_in rows ≤ i → batch_in d w a ≡ run_from rows 0 (rows_in rows) b₀
    unfolding run_from
    going_done all =
        let none : rows_in rows - i ≡ 0 = omega (arith, all) in
        ap (λ (n : ℕ). run_from rows i n (batch_in d w a)) (sym none) ∙ g.done
