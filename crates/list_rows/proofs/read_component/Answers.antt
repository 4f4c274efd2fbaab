-- `list_rows::read_component` meets its contract: behind the last column all are right, and each number is that of its column.
use Rattle.std.proofs.Common.{◌∙◌}
use Rattle.list_rows.proofs.Rows.{fault_none, component_is}
use Rattle.list_rows.proofs.read_component.Goals as goal

pub returns : goal.returns
returns c = (
  fault_none _ _ c.in_ok-amount.ensures.0,
  component_is _ _ c.in_ok-code.ensures.1 c.in_ok-quantity.ensures.1 c.in_ok-flag.ensures.1 (c.new.ensures ∙ c.in_ok-premium.ensures.1)
      (c.new-2.ensures ∙ c.in_ok-discount.ensures.1) (c.new-3.ensures ∙ c.in_ok-amount.ensures.1),
)
