-- `list_writing_tests::Checked::head_size` meets its contract: the code's table and its figures are the list's.
use Rattle.std.proofs.Common.{◌∙◌, ap, length}
use Rattle.list_rules.specs.Writing.{listed}
use Rattle.list_trip.proofs.WrittenPassing.{passing}
use Rattle.list_writing_tests.proofs.Heads.{head_lent}
use Rattle.list_writing_tests.proofs.Sizes.{letters_few}
use Rattle.list_writing_tests.proofs.Checked.head_size.Goals as goal

pub figures_of-figures-requires : goal.figures_of-figures-requires
figures_of-figures-requires c = (passing _ _ c.args.self.now.passing).ranges

pub head_size-requires : goal.head_size-requires
head_size-requires c = letters_few _ (passing _ _ c.args.self.now.passing)

pub returns-clause-value : goal.returns-clause-value
returns-clause-value c = c.head_size.ensures.value ∙ ap length (head_lent _ c.field_table.ensures (listed c.args.self.now.list) _ c.figures_of-figures.ensures)
