-- `opening::open_account` meets its contract. The loop's invariant: the stretch is opened as far as line `line`.
use Rattle.std.proofs.Common.{◌-◌, length}
use Rattle.opening.proofs.Front.{Fronted}
use Rattle.opening.proofs.open_account.Given as goal

abbrev pub invariant-loop-line : goal.invariant-loop-line
invariant-loop-line l = Fronted (length l.held - 2) l.held l.line l.stretch
