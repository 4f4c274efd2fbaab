-- The digits of a number as its logarithm counts them.
use Rattle.std.proofs.Common.{◌≡◌, ℕ, ◌+◌, ◌*◌, ◌^◌, ◌≤◌, ◌<◌, ◌∙◌, Option, Some, None, IfNone, IfSome, unwrap_or, max, arith}
use Rattle.digits.specs.Digits.{tens, blanks_left}
use Rattle.digits.proofs.Count.{tens_of_power, tens_none, power_positive}
use Rattle.digits.proofs.Write.{free_length, digits-length, plain_free, plain-length, whole_short, signed-length, number-length}
use Rattle.std.proofs.lemmas.Bool.Decides.{nat_tests}

pub digits_counted : (n : ℕ) (o : Option ℕ) (r : ℕ) → n < 10 ^ 20 → IfNone o (n ≡ 0) → IfSome o (λ k. 10 ^ k ≤ n)
    → IfSome o (λ k. n < 10 * 10 ^ k) → IfSome o (λ k. k < 20) → r ≡ unwrap_or o 0 → (r ≡ tens n) × (r ≤ 19)
digits_counted n None r h none low high few e = (e ∙ tens_none n none, omega (arith, e))
digits_counted n (Some k) r h none low high few e = (e ∙ tens_of_power n k h low high, omega (arith, e, few))

-- a number with its blanks is as wide as its field, or longer
pub padded : (width : Option ℕ) (n m : ℕ) → m ≡ unwrap_or width 0 → blanks_left width n + n ≡ max n m
unfolding blanks_left
padded None n m e = omega (arith, e)
padded (Some width) n m e = omega (arith, e)

-- the sizes of the parts, for the search
pub ruleset whole_sizes = (free_length, digits-length)

pub ruleset plain_sizes = (plain_free, plain-length, whole_short, power_positive)

pub ruleset signed_sizes = (nat_tests, signed-length)

pub ruleset number_sizes = (number-length, padded)
