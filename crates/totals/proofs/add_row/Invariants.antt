-- `totals::add_row` meets its contract. The loop's invariant: `Pass`, with the places below `j` done. Adding the row's number wraps a
-- total only where that number reaches 2^62 itself, and then the or does.
use Rattle.totals.specs.Totals.{plus_row}
use Rattle.totals.proofs.Pass.{Pass, Seen}
use Rattle.totals.proofs.add_row.Given as goal

abbrev pub invariant-loop-j : goal.invariant-loop-j
invariant-loop-j l = Pass l.initial.totals (plus_row l.initial.totals l.row) l.j l.totals × Seen (plus_row l.initial.totals l.row) l.j l.high
