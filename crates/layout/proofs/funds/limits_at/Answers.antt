-- `layout::limits_at` meets its contract: each limit is the number at its place, so they are that list.
use Rattle.std.proofs.Common.{rules}
use Rattle.sequences.proofs.Below.{table_ext}
use Rattle.layout.specs.Places.{limit_count}
use Rattle.layout.proofs.funds.limits_at.Goals as goal

pub returns : goal.returns
returns c = table_ext _ limit_count 0 _ c.from_fn.ensures.items.long (λ k h. let one = c.from_fn.ensures.items.at k 0 h in search rules)
