-- The ranges under which no number of a line wraps.
use Rattle.std.specs.Prelude.{◌≡◌, ◌≤◌, true}
use Rattle.flags.specs.Table.{FlagTable, entry, in_use}
use Rattle.layout.specs.declared.Component.{Component}

-- a component, whose flag is in use
pub record Ranged (t : FlagTable) (c : Component) : Type 0 where
  pub used : entry t c.flag in_use ≡ true
  pub quantity : c.quantity ≤ 99_999_999
  pub premium : c.premium.0 ≤ 100_000
  pub discount : c.discount.0 ≤ 100_000
  pub amount : c.amount.0 ≤ 99_999_999_999
