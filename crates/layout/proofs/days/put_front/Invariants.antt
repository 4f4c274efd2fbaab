-- `layout::days::put_front` meets its contract. The loop's invariant: the first `i` numbers stand at the front.
use Rattle.std.proofs.Common.{◌≡◌}
use lib.Seq.{paste}
use Rattle.layout.proofs.days.put_front.Given as goal

abbrev pub invariant-loop-i : goal.invariant-loop-i
invariant-loop-i l = l.run ≡ paste l.initial.run 0 l.numbers l.i
