-- Each test has a refusal's number.
use Rattle.std.specs.Prelude.{Option}
use Prim.Native.Nat.{ℕ}
use lib.Dec.{T}
use native.Mathlib.Omega.{arith}
use Rattle.sequences.proofs.Checks.{numbered}
use Rattle.rules.specs.declared.Kind.{Kind}
use Rattle.rules.specs.declared.Rooms.{Rooms}
use Rattle.rules.specs.declared.Counts.{Counts}
use Rattle.order_shortage.specs.Tests.{stock_tests, last_tests, cash_number}

pub stock_numbered : (kind : Kind) (held units : ℕ) (short : Option ℕ) → T (numbered (stock_tests kind held units short))
unfolding stock_tests
stock_numbered kind held units short = grind arith

pub last_numbered : (kind : Kind) (place held due : ℕ) (rooms : Rooms) (counts : Counts) → T (numbered (last_tests (cash_number kind) place held due rooms counts))
unfolding last_tests cash_number
last_numbered kind place held due rooms counts = grind arith
