-- Reading: a number's sign, and the blanks before it.
use Rattle.std.proofs.lemmas.Grind.{common_steps}
use mathlib.Core.Path.{◌≡◌, refl, sym}
use mathlib.Core.Bool.{Bool, true, false, not, and-false, false≢true}
use mathlib.Core.List.{List, [], ◌∷◌}
use Prim.Native.Nat.{ℕ, ◌≤◌}
use native.Mathlib.Omega.{arith}
use lib.ListN.{length, get_or, drop, get_or-eq_default}
use lib.Dec.{eqb}
use borrow.Author.Tests.{eq-eqb, ne_eqb}
use Rattle.sequences.specs.Every.{every}
use Rattle.digits.specs.declared.Form.{Form}
use Rattle.std.specs.Prelude.{Option, Some, None, is_none}
use Rattle.digits.specs.Digits.{plain, blanks, minus_figure, is_plain, plain_size, has_minus, is_signed}
use Rattle.digits.specs.Digits.{signed_figure, trimmed_by, trimmed, is_number, figure_of, size_reading, reading, below_zero, above_zero}

-- ---- with and without a width

is-none : (o : Option ℕ) → is_none o ≡ true → o ≡ None
is-none None e = refl
is-none (Some n) e = absurd (false≢true e)

is-some : (o : Option ℕ) → is_none o ≡ false → (n : ℕ) × (o ≡ Some n)
is-some None e = absurd (false≢true (sym e))
is-some (Some n) e = (n, refl)

-- ---- with its sign

-- a size behind a "-" is a number where it is one itself and above 0
below_test : (b : Bool) (n : ℕ) → below_zero (size_reading b n) ≡ reading (every (b ∷ not (eqb n 0) ∷ [])) (record { negative = true; size = n })
unfolding every minus_figure
below_test false n = refl
below_test true n = grind (arith, common_steps)

above_test : (b : Bool) (n : ℕ) → above_zero (size_reading b n) ≡ reading b (plain n)
above_test true n = refl
above_test false n = refl

module _ (f : Form) (s : List ℕ) where
  pub minus_first : f.signed ≡ true → get_or s 0 0 ≡ 45 → has_minus f s ≡ true
  unfolding has_minus
  minus_first e h = rw (e, eq-eqb (get_or s 0 0) 45 h)

  pub minus_unsigned : f.signed ≡ false → has_minus f s ≡ false
  unfolding has_minus
  minus_unsigned e = rw e

  pub minus_other : (get_or s 0 0 ≡ 45 → ⊥) → has_minus f s ≡ false
  unfolding has_minus
  minus_other h = rw (ne_eqb (get_or s 0 0) 45 h) (and-false f.signed)

  pub minus_empty : length s ≤ 0 → has_minus f s ≡ false
  minus_empty h = minus_other λ e. omega (arith, e, get_or-eq_default s 0 h)

  pub signed_minus : has_minus f s ≡ true
      → below_zero (size_reading (is_plain f (drop 1 s)) (plain_size f (drop 1 s))) ≡ reading (is_signed f s) (signed_figure f s)
  unfolding is_signed signed_figure
  signed_minus e = rw e (below_test (is_plain f (drop 1 s)) (plain_size f (drop 1 s)))

  pub signed_plus : has_minus f s ≡ false → above_zero (size_reading (is_plain f s) (plain_size f s)) ≡ reading (is_signed f s) (signed_figure f s)
  unfolding is_signed signed_figure
  signed_plus e = rw e (above_test (is_plain f s) (plain_size f s))

  -- ---- right in its field

  pub number_plain : is_none f.width ≡ true → reading (is_signed f s) (signed_figure f s) ≡ reading (is_number f s) (figure_of f s)
  unfolding is_number figure_of trimmed trimmed_by
  number_plain e = rw (is-none f.width e)

  pub number_right : is_none f.width ≡ false → reading (is_signed f (drop (blanks s) s)) (signed_figure f (drop (blanks s) s)) ≡ reading (is_number f s) (figure_of f s)
  unfolding is_number figure_of trimmed trimmed_by
  number_right h = rw (is-some f.width h).1
