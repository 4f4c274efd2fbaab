-- `digits_put::put_last` meets its contract. The loop's invariant: the digits from the `i`-th place on are written, and `m` is left.
use Rattle.digits_put.proofs.Last.{LastFrom}
use Rattle.digits_put.proofs.put_last.Given as goal

abbrev pub invariant-loop-i : goal.invariant-loop-i
invariant-loop-i l = LastFrom l.initial.digits l.n l.digits l.m l.i
