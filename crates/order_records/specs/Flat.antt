-- A flat run that records are written to, from a place on.
use mathlib.Core.Path.{◌≡◌}
use native.Mathlib.Omega.{arith}
use lib.Seq.{length-sets}
use Rattle.std.specs.Prelude.{ℕ, ◌+◌, ◌-◌, ◌/◌, length}
use Rattle.std.proofs.lemmas.List.Edits.{sets}
use Rattle.layout.specs.Places.{record_width}
use Rattle.layout.specs.declared.Record.{Record}
use Rattle.layout.specs.Records.{record_numbers}
use Rattle.order_records.specs.declared.Out.{Out}

-- how many more records it takes
unfoldable pub room_left : Out → ℕ
room_left o = (length o.run.now - o.at) / record_width

-- the run with a record there, and the next free place behind it
abbrev pub with_record : Out → Record → Out
with_record o r = record o { run = record o.run { now = sets o.run.now o.at (record_numbers r) }; at = o.at + record_width }

-- a record takes one place
pub left_less : (o : Out) (r : Record) → room_left (with_record o r) ≡ room_left o - 1
unfolding room_left
left_less o r = omega (arith, length-sets o.run.now o.at (record_numbers r))
