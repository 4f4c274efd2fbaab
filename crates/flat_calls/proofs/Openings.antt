-- An opening accepted through its run is an accepted opening.
use mathlib.Core.Path.{◌≡◌}
use mathlib.Core.Bool.{true}
use mathlib.Core.List.{List}
use Prim.Native.Nat.{ℕ}
use native.Mathlib.Omega.{arith}
use Rattle.std.proofs.lemmas.Bool.Decides.{nat_tests}
use Rattle.sequences.specs.Checks.{is_accepted}
use Rattle.rules.specs.Opening.{Opening, opening_reply}
use Rattle.flat_calls.specs.Opening.{flat_reply}

pub opening_accepted : (fund : List ℕ) (o : Opening) → is_accepted (flat_reply fund o) ≡ true → is_accepted (opening_reply o) ≡ true
unfolding flat_reply is_accepted
opening_accepted fund o accepted = grind (arith, nat_tests)
