-- `list_rows::store_rows` meets its contract. The loop's invariant: the components of the lines that were given are stored.
use Rattle.std.proofs.Common.{◌≡◌}
use Rattle.sequences.proofs.Chunks.{ChunksFrom}
use Rattle.text_rules.specs.Columns.{line_pitch}
use Rattle.list_rules.specs.Shanghai.{shanghai_columns}
use Rattle.list_rows.specs.Rows.{rows_of}
use Rattle.list_rows.proofs.Stored.{stored}
use Rattle.list_rows.proofs.store_rows.Given as goal

abbrev pub invariant-loop-j : goal.invariant-loop-j
invariant-loop-j l = record {
  given : ChunksFrom (rows_of l.text) (line_pitch shanghai_columns) l.j-iterator.iter.size l.j-iterator.iter.rest.now l.j-iterator.count;
  kept : l.run ≡ stored l.table l.text l.initial.run l.j-iterator.count;
}
