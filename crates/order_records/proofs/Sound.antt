-- A sound day gives what putting an account's order asks.
use mathlib.Core.List.{List}
use Prim.Native.Nat.{ℕ, ◌≤◌}
use lib.ListN.{length}
use Rattle.fund.proofs.Laws.{fund_sound}
use Rattle.layout.specs.Day.{Day}
use Rattle.rules.specs.declared.Ask.{Ask}
use Rattle.rules.specs.declared.CashByMarket.{CashByMarket}
use Rattle.rules.specs.Kinds.{records_by}
use Rattle.rules.proofs.SoundDay.{SoundDay}
use Rattle.order_records.specs.Ready.{Writable}

-- an order can be written where there is room
pub sound_writable : (d : Day) (b ps : List ℕ) → SoundDay d b ps → (s : List ℕ) (ask : Ask) (m : ℕ) (c : CashByMarket) (room : ℕ)
    → length (records_by ask.kind d s ask.units m c) ≤ room → Writable d s ask m c room
sound_writable d b ps day s ask m c room fits = record { first_code = (fund_sound d.fund day.own.fund_fields).first_code; room_is = fits }
