-- `text_rows_writing::put_words_column` meets its contract. The loop's invariant: the lines whose words were given have their words.
use Rattle.sequences.proofs.Chunks.{ChunksFrom}
use Rattle.text_rules.specs.Columns.{taken_pitch}
use Rattle.text_rows_writing.specs.Lines.{word_at}
use Rattle.text_rows_writing.proofs.Stretches.{PutBelow}
use Rattle.text_rows_writing.proofs.put_words_column.Given as goal

abbrev pub invariant-loop-j : goal.invariant-loop-j
invariant-loop-j g l =
    ChunksFrom l.texts l.fn.line.words l.j-iterator.iter.size l.j-iterator.iter.rest.now l.j-iterator.count
    × PutBelow (taken_pitch l.fn.line) l.taken.bytes (word_at l.width l.texts l.fn.line.words l.taken.words) l.initial.rows g.count l.rows l.j-iterator.count
