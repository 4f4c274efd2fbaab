-- `list_writing::put_head` meets its contract: the code's table and its figures are the list's.
use Rattle.list_rules.specs.Writing.{listed}
use Rattle.list_trip.proofs.WrittenPassing.{passing}
use Rattle.list_writing_tests.proofs.Heads.{head_lent}
use Rattle.list_writing.proofs.put_head.Goals as goal

pub figures_of-figures-requires : goal.figures_of-figures-requires
figures_of-figures-requires c = (passing _ _ c.args.checked.now.passing).ranges

pub put_head-requires : goal.put_head-requires
put_head-requires c = rw (head_lent _ c.field_table.ensures (listed c.args.checked.now.list) _ c.figures_of-figures.ensures) c.requires

pub returns : goal.returns
returns c = rw (head_lent _ c.field_table.ensures (listed c.args.checked.now.list) _ c.figures_of-figures.ensures) at c.put_head.ensures
