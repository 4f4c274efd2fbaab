-- `flags::table_at` meets its contract: the rows of the run are as many as a table has, and they are the table.
use mathlib.Core.Path.{◌∙◌}
use Rattle.flags.proofs.Run.{rows_count, whole_table}
use Rattle.flags.proofs.table_at.Goals as goal

pub unwrap-requires : goal.unwrap-requires
unwrap-requires c = c.as_array.ensures.variant.1 (c.as_chunks.ensures.front_len ∙ rows_count c.args.numbers.now c.requires)

pub returns : goal.returns
returns c = whole_table c.args.numbers.now c.requires _ _ c.unwrap.result c.as_chunks.ensures.front c.unwrap.ensures c.as_array.ensures.cases
