-- Each line's number fits its cell, which is blank until then.
use mathlib.Core.Path.{◌∙◌, refl}
use native.Mathlib.Omega.{arith}
use Rattle.sequences.proofs.Chunks.{chunks_start, chunk_room, chunk_is, chunks_again, chunks_end}
use Rattle.text_rows_writing.proofs.Rows.{number_here, number_fits, numbers_held}
use Rattle.text_rows_writing.proofs.Stretches.{put-start, put_end, put_here, put_later, put-again, piece_below, pieces_all}
use Rattle.text_rows_writing.proofs.put_numbers_column.Goals as goal

pub loop-j-init : goal.loop-j-init
loop-j-init g c =
    let p = c.requires in
    let items = c.enumerate-j-items.ensures in
    rw (c.into_iter-j-iterator.ensures.into_iter_gives, items.source, items.count) (
      chunks_start _ _ c.chunks_exact.ensures.size c.chunks_exact.ensures.rest refl,
      put-start _ _ _ _ _ p.1.1.0.0 (numbers_held _ _ _ _ _ _ _ _ _ p.0.0 p.1.1.1),
    )

pub overflow_mul-j : goal.overflow_mul-j
overflow_mul-j g c =
    let p = c.requires in
    let v = c.loop-j.invariant in
    let step = c.in-Some.ensures.steps in
    let below = piece_below p.1.0.0 (omega (arith, p.1.0.1)) (chunk_room _ _ v.0 _ _ step.0.1) in
    rw (step.1, c.pitch-pitch.ensures) (omega (arith, put_here v.1 below))

pub overflow_add-j : goal.overflow_add-j
overflow_add-j g c =
    let p = c.requires in
    let v = c.loop-j.invariant in
    let step = c.in-Some.ensures.steps in
    let below = piece_below p.1.0.0 (omega (arith, p.1.0.1)) (chunk_room _ _ v.0 _ _ step.0.1) in
    rw (step.1, c.pitch-pitch.ensures) (omega (arith, put_here v.1 below, p.0.0))

pub put_cell-requires : goal.put_cell-requires
put_cell-requires g c =
    let p = c.requires in
    let v = c.loop-j.invariant in
    let step = c.in-Some.ensures.steps in
    let below = piece_below p.1.0.0 (omega (arith, p.1.0.1)) (chunk_room _ _ v.0 _ _ step.0.1) in
    record {
      room = rw (step.1, c.pitch-pitch.ensures) (omega (arith, put_here v.1 below, p.0.0));
      cell_value = rw (step.1, c.pitch-pitch.ensures) (put_later v.1 below _ p.0.0 ∙ p.1.1.0.1 _ below);
      fits = number_fits _ _ _ _ _ _ _ (chunk_is _ _ v.0 _ _ step.0.1) p.1.0.1 p.1.0.2 c.has_number-used.ensures p.1.1.1 below;
    }

pub loop-j-preserved : goal.loop-j-preserved
loop-j-preserved g c =
    let p = c.requires in
    let v = c.loop-j.invariant in
    let step = c.in-Some.ensures.steps in
    let below = piece_below p.1.0.0 (omega (arith, p.1.0.1)) (chunk_room _ _ v.0 _ _ step.0.1) in
    let number = number_here _ _ _ _ _ _ _ (chunk_is _ _ v.0 _ _ step.0.1) p.1.0.1 p.1.0.2 c.has_number-used.ensures in
    (chunks_again _ _ v.0 _ _ step.0.1 step.0.0 step.2, rw step.2 (put-again v.1 below (rw (step.1, c.pitch-pitch.ensures) at c.put_cell.ensures) number))

pub returns : goal.returns
returns g c =
    let p = c.requires in
    let v = c.loop-j.invariant in
    put_end v.1 (pieces_all p.1.0.0 (omega (arith, p.1.0.1)) (chunks_end _ _ v.0 c.in-None.ensures.steps.0.1.0))
