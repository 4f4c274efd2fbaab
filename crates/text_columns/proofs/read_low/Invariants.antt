-- `text_columns::read_low` meets its contract. The loop's invariant: the bytes before this one are read, and what they make is `a`.
use Rattle.text_columns.proofs.Known.{LowTo}
use Rattle.text_columns.proofs.read_low.Given as goal

abbrev pub invariant-loop-b : goal.invariant-loop-b
invariant-loop-b l = LowTo l.s l.before l.b-index l.a
