-- Signed numbers and figures of them; each says the other.
use Rattle.std.proofs.Common.{◌≡◌, refl, ℕ, zero, suc, ◌<◌, Bool, true, false, cond, ℤ, pos, negsuc, arith}
use Rattle.digits.specs.declared.Figure.{Figure}
use Rattle.digits.specs.Signed.{minus, signed_of, figure_signed}

-- the number of a number's figure
pub signed_figure_lem : (e : ℤ) → signed_of (figure_signed e) ≡ e
unfolding signed_of figure_signed minus
signed_figure_lem (pos n) = refl
signed_figure_lem (negsuc n) = refl

-- a figure by its sign and its size
figure_parts : (b : Bool) (n : ℕ) → (b ≡ true → 0 < n) → figure_signed (cond b (minus n) (pos n)) ≡ record { negative = b; size = n }
unfolding figure_signed minus
figure_parts false n h = refl
figure_parts true zero h = absurd (omega (arith, h refl))
figure_parts true (suc n) h = refl

-- a figure that is negative only above zero
pub figure_signed_lem : (z : Figure) → (z.negative ≡ true → 0 < z.size) → figure_signed (signed_of z) ≡ z
unfolding signed_of
figure_signed_lem z h = figure_parts z.negative z.size h
