-- Laws of rounding, of a premium and a discount, and of the bound that the maximum cash ratio sets.
use mathlib.Core.Path.{◌≡◌, sym, ap, ◌∙◌}
use mathlib.Core.Logic.{◌↔◌}
use Prim.Native.Nat.{ℕ, ◌+◌, ◌-◌, ◌*◌, ◌/◌, ◌%◌, ◌≤◌, ◌<◌}
use native.Mathlib.Nat.{add-mul, mul_assoc, add_assoc, div-add-mod, mul-add-div, mul-le-mul, mul-le-mul_left, le-div_iff_mul-le}
use native.Mathlib.Omega.{arith}
use lib.Dec.{lit<}
use Rattle.units.specs.Units.{rate_one, rounded, premium, discount, ratio_bound}

apart : (d q s k h : ℕ) → (d * q + s) * k + h ≡ d * (q * k) + (s * k + h)
apart d q s k h = simp (add-mul, mul_assoc, add_assoc)

-- the whole part of (v * k + h) / d, with no product above v / d * k or d * k + h
pub split : (d v k h : ℕ) → 0 < d → v / d * k + (v % d * k + h) / d ≡ (v * k + h) / d
split d v k h pos =
    sym (mul-add-div pos (v / d * k) (v % d * k + h))
    ∙ ap (λ (n : ℕ). n / d) (sym (apart d (v / d) (v % d) k h) ∙ ap (λ (n : ℕ). (n * k + h)) (div-add-mod v d))

-- a product is at most the product of two numerals; the bounds are written out, since numerals' products compute
pub under : (m n : ℕ) {a b : ℕ} → a ≤ m → b ≤ n → a * b ≤ m * n
under m n p q = mul-le-mul p q

-- rounding to a hundred-thousandth is to add a half and take the whole part
pub rounded_rate : (x : ℕ) → rounded x 100_000 ≡ (x + 50_000) / 100_000
unfolding rounded
rounded_rate x = omega arith

-- a premium at most doubles the amount
pub premium-le : (v r : ℕ) → r ≤ rate_one → premium v r ≤ 2 * v
unfolding premium
premium-le v r h =
    let p : v * (100_000 + r) ≤ v * 200_000 = mul-le-mul_left v (omega arith) in
    omega (arith, rounded_rate (v * (100_000 + r)))

-- a discount adds nothing
pub discount-le : (v r : ℕ) → discount v r ≤ v
unfolding discount
discount-le v r =
    let p : v * (100_000 - r) ≤ v * 100_000 = mul-le-mul_left v (omega arith) in
    omega (arith, rounded_rate (v * (100_000 - r)))

-- the rate 0 changes nothing
pub premium_none : (v : ℕ) → premium v 0 ≡ v
unfolding premium
premium_none v = omega (arith, rounded_rate (v * 100_000))

pub discount_none : (v : ℕ) → discount v 0 ≡ v
unfolding discount
discount_none v = omega (arith, rounded_rate (v * 100_000))

-- a whole sum is at most the bound exactly where it is at most the quotient itself
pub within_bound : (s m u v x : ℕ) → (s ≤ ratio_bound m u v x) ↔ (s * 1_000_000 ≤ m * u * v * x)
unfolding ratio_bound
within_bound s m u v x = le-div_iff_mul-le (lit< tt)
