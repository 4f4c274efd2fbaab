-- The chain from an opening to a list of calls.
use mathlib.Core.Path.{◌≡◌}
use mathlib.Core.Bool.{true}
use mathlib.Core.List.{List}
use Prim.Native.Nat.{ℕ}
use Rattle.sequences.specs.Checks.{is_accepted}
use Rattle.layout.specs.Day.{day_at}
use Rattle.rules.specs.Opening.{Opening}
use Rattle.balance.specs.Balanced.{opened}
use Rattle.driver_rows.specs.Rows.{state_of}
use Rattle.flat_calls.specs.Opening.{flat_reply, FlatOutcome}

-- what an accepted opening leaves is the state that demand 3 starts from
pub opened_through : (fund : List ℕ) (o : Opening) → is_accepted (flat_reply fund o) ≡ true → (number place value : ℕ) (book prices day : List ℕ)
    → FlatOutcome fund o number place value book prices day → opened o ≡ state_of (day_at day) book prices
opened_through fund o accepted number place value book prices day out = rw (out.day_says accepted, out.book_is, out.prices_is, accepted)
