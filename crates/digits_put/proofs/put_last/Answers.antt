use Rattle.digits_put.proofs.Last.{last_start, last_again}
use Rattle.digits_put.proofs.put_last.Goals as goal

pub loop-i-init : goal.loop-i-init
loop-i-init c = last_start _ _

pub loop-i-preserved : goal.loop-i-preserved
loop-i-preserved c =
    rw (c.split_last-rest.ensures.0, c.split_last-rest.ensures.1) (last_again _ _ _ _ _ c.loop-i.invariant c.loop-i-test.true)
