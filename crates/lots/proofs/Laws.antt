-- Two records of lots are equal where their fields are.
use mathlib.Core.Path.{◌≡◌}
use Prim.Native.Nat.{ℕ}
use Rattle.lots.specs.declared.Lots.{Lots}

abbrev pub lots : ℕ → ℕ → ℕ → Lots
lots o b g = record { old = o; bought = b; got = g }

pub lots-eq : {a b c a' b' c' : ℕ} → a ≡ a' → b ≡ b' → c ≡ c' → lots a b c ≡ lots a' b' c'
lots-eq p q r = cc
