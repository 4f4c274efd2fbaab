-- `list_layout::numbers_of` meets its contract: the fund is stored in a run of zeros, and the other fields behind it, up to the run's end.
use mathlib.Core.Path.{refl}
use borrow.Author.Rules.{rules}
use Rattle.layout.specs.Fund.{signed_numbers}
use Rattle.list_layout.proofs.Laws.{fields_stored}
use Rattle.list_layout.proofs.numbers_of.Goals as goal

pub returns : goal.returns
unfolding signed_numbers
returns c = fields_stored c.args.l _ refl c.put_fund.new.run c.copy_from_slice.new.self c.put_fund.ensures (search rules)
