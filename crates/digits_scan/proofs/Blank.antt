-- Blanks and digits: what the code's tests and chains say.
use Rattle.std.proofs.Common.{◌≡◌, refl, ℕ, suc, ◌+◌, ◌≤◌, Bool, true, false, cond, not, ◌&&◌, eqb, List, [], ◌∷◌, ◌++◌, length, sym, ◌∙◌, arith, ne_eqb}
use mathlib.Core.Bool.{and-true, and_assoc}
use Rattle.std.specs.List.{position_or_len}
use Prim.Native.Nat.compare
use Rattle.std.proofs.lemmas.Bool.Decides.{nat_tests}
use Rattle.digits.specs.Digits.{blanks, all_blank}
use Rattle.digits.proofs.Read.{digit_yes, digit_low, digit_high}

-- byte by byte
blank_first : (b : ℕ) (r : List ℕ) → all_blank (b ∷ r) ≡ eqb b 32 && all_blank r
unfolding all_blank blanks
blank_first b r = by_byte (eqb b 32)
  where
    by_byte : (t : Bool) → eqb (cond t (suc (blanks r)) 0) (suc (length r)) ≡ t && eqb (blanks r) (length r)
    by_byte true = rw compare.suc-suc
    by_byte false = ne_eqb 0 (suc (length r)) (λ e. absurd (omega arith))

-- one byte more
pub blank_more : (s : List ℕ) (b : ℕ) → all_blank (s ++ b ∷ []) ≡ all_blank s && eqb b 32
unfolding all_blank blanks
blank_more [] b = blank_first b [] ∙ and-true (eqb b 32)
blank_more (x ∷ s) b = rw (blank_first x (s ++ b ∷ []), blank_first x s, blank_more s b) (sym (and_assoc (eqb x 32) _ _))

one_more : (n : ℕ) → 1 + n ≡ suc n
one_more n = omega arith

-- the place of the first byte that is no blank
pub blanks_are : (s : List ℕ) → position_or_len (λ b. not (eqb b 32)) s ≡ blanks s
unfolding blanks
blanks_are [] = refl
blanks_are (b ∷ r) = rw (blanks_are r, one_more (blanks r)) (by_byte (eqb b 32) (blanks r))
  where
    by_byte : (t : Bool) (n : ℕ) → cond (not (not t)) (suc n) 0 ≡ cond t (suc n) 0
    by_byte true n = refl
    by_byte false n = refl

pub blanks_within : (s : List ℕ) → blanks s ≤ length s
unfolding blanks
blanks_within [] = omega arith
blanks_within (b ∷ r) = by_byte (eqb b 32) (blanks r) (length r) (blanks_within r)
  where
    by_byte : (t : Bool) (n m : ℕ) → n ≤ m → cond t (suc n) 0 ≤ suc m
    by_byte true n m h = omega arith
    by_byte false n m h = omega arith

pub ruleset digit_tests = (nat_tests, digit_yes, digit_low, digit_high)
