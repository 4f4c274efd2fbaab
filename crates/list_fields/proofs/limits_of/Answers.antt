-- `list_fields::limits_of` meets its contract: the limits are the sizes of their figures at every place, so they are that list.
use Rattle.std.proofs.Common.{rules}
use Rattle.sequences.proofs.Below.{table_ext}
use Rattle.layout.specs.Places.{limit_count}
use Rattle.list_fields.proofs.limits_of.Goals as goal

pub returns : goal.returns
returns c = table_ext _ limit_count 0 _ c.from_fn.ensures.items.long (λ k h. let one = c.from_fn.ensures.items.at k 0 h in search rules)
