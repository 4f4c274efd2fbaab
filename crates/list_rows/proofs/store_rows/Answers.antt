-- Each line that is given is the text's, and no column of it is at fault.
use Rattle.std.proofs.Common.{rules, ◌∙◌, refl, arith}
use Rattle.sequences.proofs.Chunks.{chunks_start, chunks_again}
use Rattle.list_rows.proofs.Lines.{pitch_some, flags_ours, pitch_ours, line_given, lines_given}
use Rattle.list_rows.proofs.Stored.{row_right, stored_start, stored_room, stored_again, stored_end}
use Rattle.list_rows.proofs.store_rows.Goals as goal

pub chunks_exact-requires : goal.chunks_exact-requires
chunks_exact-requires c = pitch_some _ c.pitch-pitch.ensures

pub loop-j-init-derived : goal.loop-j-init-derived
loop-j-init-derived c =
    ((rw (c.into_iter-j-iterator.ensures.into_iter_gives, c.enumerate-j-items.ensures.source, c.chunks_exact.ensures.size) (pitch_some _ c.pitch-pitch.ensures), tt, search rules), tt)

pub loop-j-init : goal.loop-j-init
loop-j-init c =
    let pitch = pitch_ours c.line_form-form.ensures c.columns-columns.ensures.value c.pitch-pitch.ensures in
    let cut = c.chunks_exact.ensures in
    let items = c.enumerate-j-items.ensures in
    rw (c.into_iter-j-iterator.ensures.into_iter_gives, items.source, items.count)
    (record { given = chunks_start _ _ (cut.size ∙ pitch) (cut.rest ∙ c.rows_of.ensures) refl; kept = stored_start _ _ _ })

pub known_numbers-requires-clause-row_in_bounds : goal.known_numbers-requires-clause-row_in_bounds
known_numbers-requires-clause-row_in_bounds c =
    let step = c.in-Some.ensures.steps in
    (line_given _ c.requires.start_value c.requires.rows_in_bounds c.loop-j.invariant.given c.args.table.now _ _ step.0.1 refl).long

pub known_numbers-requires-clause-right : goal.known_numbers-requires-clause-right
known_numbers-requires-clause-right c =
    let step = c.in-Some.ensures.steps in
    let line = line_given _ c.requires.start_value c.requires.rows_in_bounds c.loop-j.invariant.given c.args.table.now _ _ step.0.1 refl in
    rw (flags_ours c.line_form-form.ensures) (line.fault ∙ row_right _ _ c.requires.right _ line.low)

pub put_numbers-requires : goal.put_numbers-requires
put_numbers-requires c =
    let step = c.in-Some.ensures.steps in
    let v = c.loop-j.invariant in
    let line = line_given _ c.requires.start_value c.requires.rows_in_bounds v.given c.args.table.now _ _ step.0.1 step.1 in
    omega (arith, line.low, c.requires.start_value.1, c.requires.room, stored_room _ _ _ _ v.kept)

pub loop-j-preserved : goal.loop-j-preserved
loop-j-preserved c =
    let step = c.in-Some.ensures.steps in
    let v = c.loop-j.invariant in
    let line = line_given _ c.requires.start_value c.requires.rows_in_bounds v.given c.args.table.now _ _ step.0.1 refl in
    record {
      given = chunks_again _ _ v.given _ _ step.0.1 step.0.0 step.2;
      kept = c.put_numbers.ensures ∙ rw (step.1, step.2) (stored_again _ _ _ _ v.kept _ line.component (rw (flags_ours c.line_form-form.ensures) at c.known_numbers.ensures));
    }

pub returns : goal.returns
returns c =
    let v = c.loop-j.invariant in
    let all = lines_given _ c.requires.start_value c.requires.rows_in_bounds v.given c.in-None.ensures.steps.0.1.0 in
    stored_end _ _ _ _ c.requires.start_value.1 c.requires.room (v.kept ∙ rw (all, c.requires.start_value.1) refl)
