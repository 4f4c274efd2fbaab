-- `text_rows_writing::put_ends` meets its contract. The loop's invariant: the lines below `j` have their end.
use mathlib.Core.List.{[], ◌∷◌}
use Rattle.text_rules.specs.Columns.{taken_pitch}
use Rattle.text_rows_writing.proofs.Stretches.{PutBelow}
use Rattle.text_rows_writing.proofs.put_ends.Given as goal

abbrev pub invariant-loop-j : goal.invariant-loop-j
invariant-loop-j g l = PutBelow (taken_pitch l.line) l.line.bytes (λ _. 13 ∷ 10 ∷ []) l.initial.rows g.count l.rows l.j
