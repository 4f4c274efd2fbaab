-- `text_head::head_shape` meets its contract. The loop's invariant: the first line and those of the fields before field `k` stand, and
-- the line of field `k` starts at `at`.
use Prim.Native.Nat.{◌+◌}
use Rattle.text_head.proofs.Shape.{Shape}
use Rattle.text_head.proofs.head_shape.Given as goal

abbrev pub invariant-loop-k : goal.invariant-loop-k
invariant-loop-k l = Shape l.fields l.text l.at (l.k + 1)
