use Rattle.std.proofs.Common.{◌+◌, ◌<◌, refl, ◌∙◌, arith}
use Rattle.sequences.specs.Stretch.{stretch_of}
use Rattle.sequences.proofs.Chunks.{chunks_start, chunk_room, chunk_is, chunks_again}
use Rattle.totals.proofs.Cut.{row_below, all_rows}
use Rattle.opening.proofs.Filled.{filled_none, filled_more, filled_all}
use Rattle.opening.proofs.open_book.Goals.{In-Some}
use Rattle.opening.proofs.open_book.Goals as goal

pub loop-a-init : goal.loop-a-init
loop-a-init c =
    let items = c.enumerate-a-items.ensures in
    rw (c.into_iter-a-iterator.ensures.into_iter_gives, items.source, items.count)
    (chunks_start _ _ c.chunks_exact.ensures.size c.chunks_exact.ensures.rest refl, filled_none _ _ _ _ c.requires.count_le_most_components.1)

-- whose turn it is
account : (c : In-Some) → c.loop-a.a-iterator.count < c.args.accounts
account c =
    let room = chunk_room _ _ c.loop-a.invariant.0 _ _ c.in-Some.ensures.steps.0.1 in
    row_below (c.args.count + 2) c.args.accounts _ (omega arith) (omega (arith, room, c.requires.holdings_len))

pub loop-a-preserved : goal.loop-a-preserved
unfolding stretch_of
loop-a-preserved c =
    let v = c.loop-a.invariant in
    let step = c.in-Some.ensures.steps in (
      chunks_again _ _ v.0 _ _ step.0.1 step.0.0 step.2,
      rw step.2
          (filled_more c.args.count c.args.holdings.now _ _ c.loop-a.book c.open_part.new.book
          (account (goal.at.loop-a-preserved c).In-Some) (c.open_part.ensures ∙ rw (step.1, chunk_is _ _ v.0 _ _ step.0.1)) v.1),
    )

pub returns : goal.returns
returns c =
    let v = c.loop-a.invariant in
    filled_all _ _ _ _ _ (all_rows v.0 _ c.requires.holdings_len c.in-None.ensures.steps.0.1.0) v.1
