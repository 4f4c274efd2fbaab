-- Lists of events put one behind the other: they happened if and only if each did, and counts add up.
use mathlib.Core.Path.{◌≡◌, refl, sym, ap, subst}
use mathlib.Core.List.{List, [], ◌∷◌, ◌++◌}
use Prim.Native.Nat.{ℕ, ◌+◌}
use native.Mathlib.Omega.{arith}
use Rattle.layout.specs.Day.{Day}
use Rattle.balance.specs.Calls.{State, Event, Happened}
use Rattle.balance.specs.Counts.{counted}

pub happened_joined : (s : State) (es fs : List Event) (t u : State) → Happened s es t → Happened t fs u → Happened s (es ++ fs) u
unfolding Happened
happened_joined s [] fs t u h g = subst (λ (v : State). Happened v fs u) (sym h) g
happened_joined s (e ∷ es) fs t u h g = (h.0, happened_joined e.result.after es fs t u h.1 g)

pub happened_split : (s : State) (es fs : List Event) (u : State) → Happened s (es ++ fs) u → (t : State) × Happened s es t × Happened t fs u
unfolding Happened
happened_split s [] fs u h = (s, refl, h)
happened_split s (e ∷ es) fs u h =
    let rest = happened_split e.result.after es fs u h.1 in
    (rest.0, (h.0, rest.1), rest.2)

pub counted_joined : (f : Day → Event → ℕ) (s : State) (es fs : List Event) (t : State) → Happened s es t → counted f s (es ++ fs) ≡ counted f s es + counted f t fs
unfolding Happened counted
counted_joined f s [] fs t h = omega (arith, ap (λ (v : State). counted f v fs) h)
counted_joined f s (e ∷ es) fs t h = omega (arith, counted_joined f e.result.after es fs t h.1)
