-- The estimated cash: its range, ten times it as a signed number, and a sum with that, which may fall below zero.
use mathlib.Core.Path.{◌≡◌}
use mathlib.Core.Bool.{true}
use Prim.Native.Nat.{ℕ, ◌+◌, ◌-◌, ◌≤◌}
use native.Mathlib.Omega.{arith}
use lib.IntN.{ℤ, pos, negsuc, nat_abs, ◌+ℤ◌, ◌*ℤ◌}
use mir.Syntax.{w64}
use lib.Dec.{lit≤, lit<}
use Rattle.std.specs.Prelude.{Option, Some, None, SomeIff, FitsSigned}
use Rattle.std.proofs.lemmas.Int.{ints, fits_signed_mul}
use Rattle.std.specs.Int.{FitsUnsigned}
use borrow.Author.Tests.{leb-true, ltb-true}
use Rattle.fund.specs.Fund.{cash_in_range}
use Rattle.rules.specs.Value.{cash_added, cash_taken}

pub small : (e : ℤ) → cash_in_range e ≡ true → nat_abs e ≤ 9_999_999_999
unfolding cash_in_range
small (pos n) h = leb-true n 9_999_999_999 h
small (negsuc n) h = omega (arith, ltb-true n 999_999_999 h)

pub ten_fits : (e : ℤ) → cash_in_range e ≡ true → FitsSigned w64 (pos 10 *ℤ e)
ten_fits e h = fits_signed_mul w64 (pos 10) e 10 9_999_999_999 (lit≤ tt) (small e h) (lit< tt)

-- a sum with ten times the estimated cash: it falls below zero just where what is taken is more than what is there
pub with_cash_lem : (r : Option ℕ) (s : ℕ) (e : ℤ) → s ≤ 300_000_000_000_000_000 → cash_in_range e ≡ true
    → SomeIff r (FitsUnsigned w64 (pos s +ℤ (pos 10 *ℤ e))) (nat_abs (pos s +ℤ (pos 10 *ℤ e)))
    → SomeIff r (cash_taken e ≤ s + cash_added e) (s + cash_added e - cash_taken e)
unfolding cash_added cash_taken cash_in_range
with_cash_lem (Some x) s (pos n) h q p = (omega arith, omega (arith, p.1))
with_cash_lem None s (pos n) h q p = λ _. p (omega (arith, ints), omega (arith, ints, leb-true n 9_999_999_999 q, h))
with_cash_lem (Some x) s (negsuc n) h q p = (omega (arith, ints, p.0.0), omega (arith, ints, p.0.0, p.1))
with_cash_lem None s (negsuc n) h q p = λ l. p (omega (arith, ints, l), omega (arith, ints, h))

pub added_small : (e : ℤ) → cash_in_range e ≡ true → cash_added e ≤ 99_999_999_990
unfolding cash_added cash_in_range
added_small (pos n) h = omega (arith, leb-true n 9_999_999_999 h)
added_small (negsuc n) h = omega arith
