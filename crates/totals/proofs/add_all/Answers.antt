use Rattle.std.proofs.Common.{◌≡◌, ◌+◌, length, refl, sym, ◌∙◌, length-append, arith}
use mathlib.Core.Bool.{true≢false}
use Rattle.std.proofs.lemmas.Result.{err_from_is_err_and}
use Rattle.sequences.proofs.Chunks.{chunks_again}
use Rattle.totals.proofs.Cut.{row_from, row_among, rows_end}
use Rattle.totals.proofs.Sums.{Counted, counted_fine, counted_row, reached_row}
use Rattle.totals.proofs.add_all.Goals as goal

pub loop-row-preserved : goal.loop-row-preserved
loop-row-preserved c =
    let a = c.args.rows.now in
    let l = c.loop-row in
    let v = l.invariant.0 in
    let step = c.in-Some.ensures.steps in
    let first = c.add_blocks-first.ensures.upper_bound in
    let more : c.add_blocks-first.result + (length l.yielded + 1) ≡ c.add_blocks-first.result + length l.yielded + 1 = omega arith in
    let q : Counted c.add_row.new.totals a.run.now a.width (c.add_blocks-first.result + length l.yielded + 1) =
    counted_row l.invariant.1 _ _ (step.1.1 ∙ v.wide) (row_from _ _ a.rows _ a.whole c.requires.0 first v _ _ step.1) _
    (sym c.in_ok-add_row.ensures.value) c.in_ok-add_row.ensures.sums in
    rw (length-append, more) (chunks_again _ _ v _ _ step.1 step.0 refl, q)

pub returns-in_err-add_row : goal.returns-in_err-add_row
returns-in_err-add_row c =
    let a = c.args.rows.now in
    let l = c.loop-row in
    let v = l.invariant.0 in
    let step = c.in-Some.ensures.steps in
    let first = c.add_blocks-first.ensures.upper_bound in
    let on = reached_row l.invariant.1 _ _ (step.1.1 ∙ v.wide) (row_from _ _ a.rows _ a.whole c.requires.0 first v _ _ step.1) a.rows (row_among _ _ a.rows _ a.whole c.requires.0 first v _ _ step.1)
    (sym c.in_err-add_row.ensures.value) in
    let p = err_from_is_err_and c.from_residual.result c.from_residual.ensures.1 in
    rw p.1 (record { value = sym on; sums = λ e. absurd (true≢false e) })

pub returns : goal.returns
returns c =
    let a = c.args.rows.now in
    let l = c.loop-row in
    let all : c.add_blocks-first.result + length l.yielded ≡ a.rows =
    rows_end _ _ a.rows _ a.whole c.requires.0 c.add_blocks-first.ensures.upper_bound l.invariant.0 c.in-None.ensures.steps.1.0 in
    let q : Counted l.totals a.run.now a.width a.rows = rw all at l.invariant.1 in
    record { value = sym (counted_fine q); sums = λ _. q.same }
