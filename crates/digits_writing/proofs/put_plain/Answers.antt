-- `digits_writing::put_plain` meets its contract: the decimals, the point, and the digits before it, one before the other.
use Rattle.std.proofs.Common.{arith}
use Rattle.digits_writing.proofs.Ending.{point_long, tail_long, plain_written}
use Rattle.digits_writing.proofs.put_plain.Goals as goal

pub bounds-field-point : goal.bounds-field-point
bounds-field-point c =
    omega (arith, point_long c.args.form c.args.n c.if-k-eq0.false, c.requires, tail_long _ _ _ c.if-k-eq0.false c.requires c.put_last-whole.ensures.bytes c.put_last-whole.ensures.left)

pub returns : goal.returns
returns c =
    let l = c.put_last-whole.ensures in
    plain_written _ _ _ c.if-k-eq0.false c.requires l.bytes l.left c.put_whole-2.ensures
