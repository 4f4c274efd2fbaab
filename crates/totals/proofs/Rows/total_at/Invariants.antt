-- `Rows::total_at` meets its contract. The loop's invariant: `sum` is the total of the rows so far, as far as 2^62.
use Rattle.std.proofs.Common.{◌≡◌, ◌≤◌, length}
use Rattle.sequences.proofs.Chunks.{ChunksFrom}
use Rattle.totals.specs.Totals.{top, capped_total}
use Rattle.totals.proofs.Rows.total_at.Given as goal

abbrev pub invariant-loop-row : goal.invariant-loop-row
invariant-loop-row l =
    ChunksFrom l.self.run.now l.self.width l.row-iterator.size l.row-iterator.rest.now (length l.yielded)
    × (l.sum ≡ capped_total l.self.run.now l.self.width (length l.yielded) l.place)
    × (l.sum ≤ top)
