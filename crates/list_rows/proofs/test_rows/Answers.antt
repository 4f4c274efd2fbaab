-- Each line that is given is the text's, and says what the line of the text says.
use Rattle.std.proofs.Common.{rules, ◌∙◌, refl, ap, length, arith}
use Rattle.sequences.proofs.Chunks.{chunks_start, chunks_again}
use Rattle.text_rules.specs.Columns.{line_width}
use Rattle.list_rows.proofs.Lines.{pitch_some, columns_ours, flags_ours, pitch_ours, line_room, line_given, lines_given}
use Rattle.list_rows.proofs.Rows.{column_there}
use Rattle.list_rows.proofs.Tested.{tested_start, tested_again, tested_wrong, tested_end}
use Rattle.list_rows.proofs.test_rows.Goals as goal

pub chunks_exact-requires : goal.chunks_exact-requires
chunks_exact-requires c = pitch_some _ c.pitch-pitch.ensures

pub loop-j-init-derived : goal.loop-j-init-derived
loop-j-init-derived c =
    ((rw (c.into_iter-j-iterator.ensures.into_iter_gives, c.enumerate-j-items.ensures.source, c.chunks_exact.ensures.size) (pitch_some _ c.pitch-pitch.ensures), tt, search rules), tt)

pub loop-j-init : goal.loop-j-init
loop-j-init c =
    let pitch = pitch_ours c.line_form-form.ensures c.columns-columns.ensures.value c.pitch-pitch.ensures in
    let cut = c.chunks_exact.ensures in
    let items = c.enumerate-j-items.ensures in
    rw (c.into_iter-j-iterator.ensures.into_iter_gives, items.source, items.count)
    (record { given = chunks_start _ _ (cut.size ∙ pitch) (cut.rest ∙ c.rows_of.ensures) refl; tested = tested_start _ _ _ })

pub read_component-requires-clause-row_in_bounds : goal.read_component-requires-clause-row_in_bounds
read_component-requires-clause-row_in_bounds c =
    let step = c.in-Some.ensures.steps in
    (line_given _ c.requires.start_value c.requires.rows_in_bounds c.loop-j.invariant.given c.args.table.now _ _ step.0.1 step.1).long

pub start-requires : goal.start-requires
start-requires c =
    let ours = columns_ours c.line_form-form.ensures c.columns-columns.ensures.value in
    grind (arith, column_there, ap length ours)

pub overflow_add-result-in-Err : goal.overflow_add-result-in-Err
overflow_add-result-in-Err c =
    let step = c.in-Some.ensures.steps in
    let line = line_given _ c.requires.start_value c.requires.rows_in_bounds c.loop-j.invariant.given c.args.table.now _ _ step.0.1 step.1 in
    let ours = columns_ours c.line_form-form.ensures c.columns-columns.ensures.value in
    let pitch = pitch_ours c.line_form-form.ensures c.columns-columns.ensures.value c.pitch-pitch.ensures in
    rw pitch (omega (arith, line_room _ c.requires.start_value c.requires.rows_in_bounds _ line.low, c.start.ensures.within, ap line_width ours))

pub returns-in-Err : goal.returns-in-Err
returns-in-Err c =
    let step = c.in-Some.ensures.steps in
    let v = c.loop-j.invariant in
    let line = line_given _ c.requires.start_value c.requires.rows_in_bounds v.given c.args.table.now _ _ step.0.1 refl in
    let ours = columns_ours c.line_form-form.ensures c.columns-columns.ensures.value in
    let pitch = pitch_ours c.line_form-form.ensures c.columns-columns.ensures.value c.pitch-pitch.ensures in
    let at = c.start.ensures.value ∙ rw (ours, c.place.ensures) refl in
    rw step.1 (tested_wrong _ _ _ v.tested _ line.fault line.low c.in-Err.column (rw (flags_ours c.line_form-form.ensures) at c.in-Err.ensures) c.requires.start_value.0 pitch at)

pub loop-j-preserved : goal.loop-j-preserved
loop-j-preserved c =
    let step = c.in-Some.ensures.steps in
    let v = c.loop-j.invariant in
    let line = line_given _ c.requires.start_value c.requires.rows_in_bounds v.given c.args.table.now _ _ step.0.1 refl in
    let ok = rw (flags_ours c.line_form-form.ensures) at c.in-Ok.ensures in
    record {
      given = chunks_again _ _ v.given _ _ step.0.1 step.0.0 step.2;
      tested = rw step.2 (tested_again _ _ _ v.tested _ line.fault ok.0 line.component ok.1 c.component_fits.ensures (rw step.1 at c.first_fault-fault.ensures));
    }

pub returns : goal.returns
returns c =
    let v = c.loop-j.invariant in
    tested_end _ _ _ v.tested (lines_given _ c.requires.start_value c.requires.rows_in_bounds v.given c.in-None.ensures.steps.0.1.0)
