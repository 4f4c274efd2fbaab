-- Writing: how long each text is, and how it is written part by part.
use Rattle.std.proofs.lemmas.Grind.{common_steps}
use mathlib.Core.Path.{◌≡◌, refl, sym, ◌∙◌}
use mathlib.Core.Bool.{true, false, cond}
use mathlib.Core.List.{List, ◌∷◌, ◌++◌}
use Prim.Native.Nat.{ℕ, zero, suc, ◌+◌, ◌-◌, ◌/◌, ◌^◌, ◌≤◌}
use native.Mathlib.Omega.{arith}
use Rattle.std.specs.Prelude.{Option, Some, None, unwrap_or}
use lib.ListN.{length, replicate, length-append, length-replicate}
use Rattle.std.proofs.lemmas.List.{take-replicate, drop_all}
use borrow.Author.Tests.{eq-eqb, ne_eqb, lt-ltb, le-ltb}
use Rattle.digits.specs.declared.Form.{Form}
use Rattle.digits.specs.declared.Figure.{Figure}
use Rattle.digits.specs.Digits.{fixed, tens_within, tens, whole_text, plain_text, signed_text, blanks_left, number_text}
use Rattle.digits.specs.Written.{put, Written}
use Rattle.digits.proofs.Read.{compare}
use Rattle.digits.proofs.Count.{fixed-length, decimal-length}

-- ---- before the point

pub free_length : (n w : ℕ) → w ≡ tens n → w + 1 ≡ length (whole_text None n)
unfolding whole_text
free_length n w h = omega (arith, decimal-length n)

pub digits-length : (digits n : ℕ) → digits ≡ length (whole_text (Some digits) n)
unfolding whole_text
digits-length digits n = sym (fixed-length digits n)

within_most : (most n : ℕ) → tens_within most n ≤ most
unfolding tens_within
within_most zero n = omega arith
within_most (suc most) n =
    compare 10 n (λ h. rw (le-ltb n 10 h) (omega (arith, within_most most (n / 10)))) (λ h. rw (lt-ltb n 10 h) (omega arith))

pub whole_short : (digits : Option ℕ) (n : ℕ) → unwrap_or digits 0 ≤ 20 → length (whole_text digits n) ≤ 20
unfolding tens
whole_short None n l = omega (arith, free_length n (tens n) refl, within_most 19 n)
whole_short (Some digits) n l = omega (arith, digits-length digits n)

-- ---- with the decimals of the form

module _ (f : Form) (n : ℕ) where
  pub plain_free : f.decimals ≡ 0 → plain_text f n ≡ whole_text f.digits n
  unfolding plain_text
  plain_free e = rw (eq-eqb f.decimals 0 e)

  pub free_put : {d d' : List ℕ} {at r : ℕ} → f.decimals ≡ 0 → Written d at (whole_text f.digits n) d' r → Written d at (plain_text f n) d' r
  free_put e w = rw (plain_free e) w

  pub plain_pointed : (f.decimals ≡ 0 → ⊥) → plain_text f n ≡ whole_text f.digits (n / 10 ^ f.decimals) ++ 46 ∷ fixed f.decimals n
  unfolding plain_text
  plain_pointed h = rw (ne_eqb f.decimals 0 h)

  module _ (some : f.decimals ≡ 0 → ⊥) (u : ℕ) (unit : u ≡ 10 ^ f.decimals) where
    pub plain-length : length (plain_text f n) ≡ length (whole_text f.digits (n / u)) + (f.decimals + 1)
    plain-length = grind (arith, common_steps, plain_pointed, fixed-length)

-- ---- with its sign

module _ (f : Form) (z : Figure) where
  pub signed_below : z.negative ≡ true → signed_text f z ≡ 45 ∷ plain_text f z.size
  unfolding signed_text
  signed_below e = rw e

  pub signed_above : z.negative ≡ false → signed_text f z ≡ plain_text f z.size
  unfolding signed_text
  signed_above e = rw e

  pub signed-length : length (signed_text f z) ≡ length (plain_text f z.size) + cond z.negative 1 0
  unfolding signed_text
  signed-length = grind (arith, common_steps)

  -- ---- right in its field

  abbrev pub blanks_put : ℕ
  blanks_put = blanks_left f.width (length (signed_text f z))

  pub number-length : length (number_text f z) ≡ blanks_put + length (signed_text f z)
  unfolding number_text
  number-length = length-append (replicate blanks_put 32) (signed_text f z) ∙ rw (length-replicate {A = ℕ} blanks_put 32)

-- ---- in a field of blanks

pub blanks-put : (w : ℕ) (xs : List ℕ) → length xs ≤ w → put (replicate w 32) (w - length xs) xs ≡ replicate (w - length xs) 32 ++ xs
unfolding put
blanks-put w xs h = grind (arith, common_steps, drop_all, take-replicate)
