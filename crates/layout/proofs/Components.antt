-- A day's component places.
use mathlib.Core.Path.{◌≡◌, ◌∙◌}
use mathlib.Core.Bool.{cond}
use Prim.Native.Nat.{ℕ, ◌≤◌, ◌<◌}
use native.Mathlib.Omega.{arith}
use lib.Dec.{ltb}
use lib.ListN.{get_or}
use borrow.Author.Tests.{lt-ltb}
use Rattle.sequences.proofs.Below.{table_at}
use Rattle.layout.specs.declared.Component.{Component}
use Rattle.layout.specs.Places.{most_components}
use Rattle.layout.specs.Components.{blank, places_of}

-- a component's place
pub places_at : (f : ℕ → Component) (n i : ℕ) → i < n → n ≤ most_components → get_or (places_of f n) i blank ≡ f i
unfolding places_of
places_at f n i h most = table_at (λ k. cond (ltb k n) (f k) blank) most_components i blank (omega arith) ∙ rw (lt-ltb i n h)
