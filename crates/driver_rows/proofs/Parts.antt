-- The part of a lent run that a row names.
use mathlib.Core.Path.{◌≡◌}
use mathlib.Core.List.{List}
use Prim.Native.Nat.{ℕ}
use native.Mathlib.Omega.{arith}
use Rattle.std.proofs.lemmas.List.{take-append-drop}
use Rattle.driver_rows.specs.declared.Span.{Span}
use Rattle.driver_rows.specs.Rows.{span, span_within, lent_in, back_in}

-- a call that is lent no list names the empty part
pub none_within : (run : ℕ) → span_within run (span 0 0) ≡ span 0 0
unfolding span_within
none_within run = grind arith

-- a run with its own part in its place is the run
pub own_back : (run : List ℕ) (p : Span) → back_in run p (lent_in run p) ≡ run
own_back run p = rw (take-append-drop, take-append-drop)
