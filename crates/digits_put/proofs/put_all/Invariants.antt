-- `digits_put::put_all` meets its contract. The loop's invariant: the digits from the `i`-th place on are written, and `m` is left.
use Rattle.digits_put.proofs.Whole.{AllFrom}
use Rattle.digits_put.proofs.put_all.Given as goal

abbrev pub invariant-loop-i : goal.invariant-loop-i
invariant-loop-i l = AllFrom l.initial.dst l.n l.dst l.i l.m
