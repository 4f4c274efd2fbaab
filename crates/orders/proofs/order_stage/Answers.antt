-- `orders::order_stage` meets its contract: a sound day and an order's form give what the third stage asks of both stretches.
use native.Mathlib.Omega.{arith}
use Rattle.orders.proofs.Laws.{stage_ready}
use Rattle.orders.proofs.order_stage.Goals as goal

pub width_of-w-requires : goal.width_of-w-requires
width_of-w-requires c = grind (arith, stage_ready _ _ _ _ c.requires)

pub part_of-fund-requires : goal.part_of-fund-requires
part_of-fund-requires c = grind (arith, stage_ready _ _ _ _ c.requires)

pub order_means-requires-clause-scannable : goal.order_means-requires-clause-scannable
order_means-requires-clause-scannable c = grind (arith, stage_ready _ _ _ _ c.requires)

pub order_means-requires-clause-priceable : goal.order_means-requires-clause-priceable
order_means-requires-clause-priceable c = grind (arith, stage_ready _ _ _ _ c.requires)

pub order_means-requires-clause-ratio_bound : goal.order_means-requires-clause-ratio_bound
order_means-requires-clause-ratio_bound c = grind (arith, stage_ready _ _ _ _ c.requires)
