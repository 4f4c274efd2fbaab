use Rattle.std.proofs.Common.{arith}
use Rattle.text_columns.proofs.Known.{low_start, low_room, low_again, low_end}
use Rattle.text_columns.proofs.read_low.Goals as goal

pub loop-b-init : goal.loop-b-init
loop-b-init c = low_start _ _ c.requires

pub overflow_mul-a : goal.overflow_mul-a
overflow_mul-a c = omega (arith, low_room _ _ _ _ c.loop-b.invariant c.loop-b-test.true)

pub overflow_add-a : goal.overflow_add-a
overflow_add-a c = omega (arith, c.from.ensures, low_room _ _ _ _ c.loop-b.invariant c.loop-b-test.true)

pub loop-b-preserved : goal.loop-b-preserved
loop-b-preserved c = rw c.from.ensures (low_again _ _ _ _ c.loop-b.invariant c.loop-b-test.true)

pub returns : goal.returns
returns c = low_end _ _ _ _ c.loop-b.invariant (omega arith)
