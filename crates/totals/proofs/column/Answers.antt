use Rattle.std.proofs.Common.{◌+◌, ◌*◌, get_or, arith}
use Rattle.totals.proofs.Top.{or_sides}
use Rattle.totals.proofs.Sums.{total_more}
use Rattle.totals.proofs.column.Goals as goal

pub loop-i-preserved : goal.loop-i-preserved
loop-i-preserved c =
    let a = c.args in
    let l = c.loop-i in
    let more = total_more a.block.now a.width l.i a.place in (
      omega (arith, l.invariant.0, more),
      (λ m h.
          let o = or_sides l.all (get_or a.block.now (l.i * a.width + a.place) 0) m h in
          omega (arith, l.invariant.1 m o.0, o.1, more)),
    )
