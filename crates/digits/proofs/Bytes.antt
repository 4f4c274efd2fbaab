-- The bytes of a number: a blank, "-", "." or a digit.
use Rattle.std.proofs.lemmas.Grind.{common_steps}
use mathlib.Core.Path.{◌≡◌, refl, ◌∙◌}
use mathlib.Core.Bool.{Bool, true, false}
use mathlib.Core.List.{List, [], ◌∷◌, ◌++◌}
use Prim.Native.Nat.{ℕ, zero, suc}
use native.Mathlib.Omega.{arith}
use Rattle.std.specs.Prelude.{Option, Some, None}
use Rattle.std.specs.List.{list_all}
use Rattle.std.proofs.lemmas.Bool.{and_from}
use Rattle.std.proofs.lemmas.List.Folds.{list_all-append}
use lib.ListN.{replicate}
use lib.Dec.{leb}
use borrow.Author.Tests.{le-leb}
use Rattle.digits.specs.declared.Form.{Form}
use Rattle.digits.specs.declared.Figure.{Figure}
use Rattle.digits.specs.Digits.{fixed, decimal, whole_text, plain_text, signed_text, number_text, all_digits}
use Rattle.digits.proofs.Read.{digit_bounds}
use Rattle.digits.proofs.Count.{fixed_digits_lem, digits-cons, decimal_digits}
use Rattle.digits.proofs.Write.{blanks_put, plain_free, plain_pointed, signed_below, signed_above}

-- every byte is 32 or more
abbrev pub is_high : List ℕ → Bool
is_high s = list_all (leb 32) s

high_append : (s t : List ℕ) → is_high s ≡ true → is_high t ≡ true → is_high (s ++ t) ≡ true
high_append s t h k = list_all-append (leb 32) s t ∙ and_from _ _ h k

high_blanks : (k : ℕ) → is_high (replicate k 32) ≡ true
high_blanks zero = refl
high_blanks (suc k) = high_blanks k

high_digits : (s : List ℕ) → all_digits s ≡ true → is_high s ≡ true
high_digits [] e = refl
high_digits (b ∷ r) e =
    let p = digits-cons b r e in
    let d = digit_bounds b p.0 in
    rw (le-leb 32 b (omega arith)) (high_digits r p.1)

whole_high : (digits : Option ℕ) (n : ℕ) → is_high (whole_text digits n) ≡ true
unfolding whole_text
whole_high None n = high_digits (decimal n) (decimal_digits n)
whole_high (Some digits) n = high_digits (fixed digits n) (fixed_digits_lem digits n)

plain_high : (f : Form) (n : ℕ) → is_high (plain_text f n) ≡ true
plain_high f n = grind (arith, common_steps, plain_free, whole_high, plain_pointed, high_append, high_digits, fixed_digits_lem)

signed_high : (f : Form) (z : Figure) (b : Bool) → z.negative ≡ b → is_high (signed_text f z) ≡ true
signed_high f z true n = rw (signed_below f z n) (plain_high f z.size)
signed_high f z false n = rw (signed_above f z n) (plain_high f z.size)

pub number_high : (f : Form) (z : Figure) → is_high (number_text f z) ≡ true
unfolding number_text
number_high f z = grind (arith, common_steps, high_append, blanks_put, high_blanks, signed_high)
