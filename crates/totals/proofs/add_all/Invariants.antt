-- `totals::add_all` meets its contract. The loop's invariant: the totals are those of the rows so far, each below 2^62. It holds at the
-- start by `add_blocks`, and a total over some rows that reaches 2^62 does so over all.
use Rattle.std.proofs.Common.{◌+◌, ◌*◌, length, drop}
use Rattle.sequences.proofs.Chunks.{ChunksFrom}
use Rattle.totals.proofs.Sums.{Counted}
use Rattle.totals.proofs.add_all.Given as goal

abbrev pub invariant-loop-row : goal.invariant-loop-row
invariant-loop-row l =
    ChunksFrom (drop (l.first * l.rows.width) l.rows.run.now) l.rows.width l.row-iterator.size l.row-iterator.rest.now (length l.yielded)
    × Counted l.totals l.rows.run.now l.rows.width (l.first + length l.yielded)
