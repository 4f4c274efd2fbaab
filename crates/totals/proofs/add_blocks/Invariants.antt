-- `totals::add_blocks` meets its contract. The loop's invariant: the totals are those of the rows of the blocks so far, wrapped, and each is
-- at most that of so many numbers below 2^56. Of at most 64 rows, no total then reaches 2^62.
use Rattle.std.proofs.Common.{◌*◌, length}
use Rattle.sequences.proofs.Chunks.{ChunksFrom}
use Rattle.totals.proofs.Sums.{Quick}
use Rattle.totals.proofs.add_blocks.Given as goal

abbrev pub invariant-loop-block : goal.invariant-loop-block
invariant-loop-block l =
    ChunksFrom l.rows.run.now (8 * l.rows.width) l.block-iterator.size l.block-iterator.rest.now (length l.yielded)
    × Quick l.totals l.rows.run.now l.rows.width (length l.yielded * 8)
