-- `list_rows::test_rows` meets its contract. The loop's invariant: no line that was given has a column at fault, `previous` is the code of the
-- last of them, and `fault` the first of them at fault by refusal 3.
use Rattle.sequences.proofs.Chunks.{ChunksFrom}
use Rattle.text_rules.specs.Columns.{line_pitch}
use Rattle.list_rules.specs.Shanghai.{shanghai_columns}
use Rattle.list_rows.specs.Rows.{rows_of}
use Rattle.list_rows.proofs.Tested.{Tested}
use Rattle.list_rows.proofs.test_rows.Given as goal

abbrev pub invariant-loop-j : goal.invariant-loop-j
invariant-loop-j l = record {
  given : ChunksFrom (rows_of l.text) (line_pitch shanghai_columns) l.j-iterator.iter.size l.j-iterator.iter.rest.now l.j-iterator.count;
  tested : Tested l.table l.first_code l.text l.previous l.fault l.j-iterator.count;
}
