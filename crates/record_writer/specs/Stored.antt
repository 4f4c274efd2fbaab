-- Records in a lent list.
use native.Mathlib.Omega.{arith}
use lib.ListN.{length-set}
use Rattle.std.specs.Prelude.{ℕ, ◌≡◌, ◌+◌, ◌-◌, set, length}
use Rattle.layout.specs.declared.Record.{Record}
use Rattle.record_writer.specs.declared.Writer.{Writer}

-- how many more records the list takes
unfoldable pub room_left : Writer → ℕ
room_left w = length w.list.now - w.at

-- the same borrow, with r at the writer's place, and the next place
abbrev pub pushed : Writer → Record → Writer
pushed w r = record w { list = record w.list { now = set w.list.now w.at r }; at = w.at + 1 }

-- a record takes one place
pub left_less : (w : Writer) (r : Record) → room_left (pushed w r) ≡ room_left w - 1
unfolding room_left
left_less w r = omega (arith, length-set w.list.now w.at r)
