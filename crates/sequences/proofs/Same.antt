-- Laws of a number that counts only where two numbers are the same.
use mathlib.Core.Path.{◌≡◌}
use Prim.Native.Nat.{ℕ}
use borrow.Author.Tests.{eq-eqb, ne_eqb}
use Rattle.sequences.specs.Same.{when_same}

pub when_same_lem : (x y v : ℕ) → x ≡ y → when_same x y v ≡ v
unfolding when_same
when_same_lem x y v e = rw (eq-eqb x y e)

pub when_other : (x y v : ℕ) → (x ≡ y → ⊥) → when_same x y v ≡ 0
unfolding when_same
when_other x y v n = rw (ne_eqb x y n)
