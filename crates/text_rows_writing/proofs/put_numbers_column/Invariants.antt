-- `text_rows_writing::put_numbers_column` meets its contract. The loop's invariant: the lines whose numbers were given have their number.
use Rattle.sequences.proofs.Chunks.{ChunksFrom}
use Rattle.text_rules.specs.Columns.{taken_pitch}
use Rattle.text_rows_writing.specs.Lines.{number_at}
use Rattle.text_rows_writing.proofs.Stretches.{PutBelow}
use Rattle.text_rows_writing.proofs.put_numbers_column.Given as goal

abbrev pub invariant-loop-j : goal.invariant-loop-j
invariant-loop-j g l =
    ChunksFrom l.run l.fn.line.numbers l.j-iterator.iter.size l.j-iterator.iter.rest.now l.j-iterator.count
    × PutBelow (taken_pitch l.fn.line) l.taken.bytes (number_at l.flags l.column l.run l.fn.line.numbers l.flag_place l.taken.numbers) l.initial.rows g.count l.rows l.j-iterator.count
