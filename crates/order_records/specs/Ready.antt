-- What putting an order's records asks: its codes fit, and there is room for the records.
use Rattle.std.specs.Prelude.{ℕ, ◌≤◌, List, length}
use Rattle.layout.specs.Day.{Day}
use Rattle.rules.specs.declared.Ask.{Ask}
use Rattle.rules.specs.declared.CashByMarket.{CashByMarket}
use Rattle.rules.specs.Kinds.{records_by}

-- an order in m baskets by an account with the stretch s, with the cash c, where so many records have room
pub record Writable (d : Day) (s : List ℕ) (ask : Ask) (m : ℕ) (c : CashByMarket) (room : ℕ) : Type 0 where
  pub first_code : d.fund.first_code ≤ 999_994
  pub room_is : length (records_by ask.kind d s ask.units m c) ≤ room
