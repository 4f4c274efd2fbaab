use Rattle.std.proofs.Common.{arith}
use Rattle.digits_put.proofs.Whole.{all_start, all_again, all_end}
use Rattle.digits_put.proofs.put_all.Goals as goal

pub loop-i-init : goal.loop-i-init
loop-i-init c = all_start _ _ c.requires (omega arith)

pub loop-i-preserved : goal.loop-i-preserved
loop-i-preserved c =
    all_again _ _ c.requires _ _ _ c.loop-i.invariant c.split_last-rest.ensures.0 c.split_last-rest.ensures.1 (λ z. omega (arith, z))

pub returns-then-is_first : goal.returns-then-is_first
returns-then-is_first c =
    all_end _ _ c.requires _ _ _ c.loop-i.invariant c.split_last-rest.ensures.0 c.split_last-rest.ensures.1 (omega arith)
