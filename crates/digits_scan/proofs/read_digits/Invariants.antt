-- `digits_scan::read_digits` meets its contract. The loop's invariant: the digits before this one are read, and what they make is `a`.
use Rattle.std.proofs.Common.{not, eqb}
use Rattle.digits_scan.proofs.Few.{Reads}
use Rattle.digits_scan.proofs.read_digits.Given as goal

abbrev pub invariant-loop-b : goal.invariant-loop-b
invariant-loop-b g l = Reads (not (eqb g.row.CAPPED 0)) l.s l.before l.b-index l.a
