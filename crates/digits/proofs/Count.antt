-- Numbers and their digits: each is found again from the other.
use Rattle.std.proofs.lemmas.Grind.{common_steps}
use mathlib.Core.Path.{◌≡◌, refl, sym, ap, ap₂, ◌∙◌}
use mathlib.Core.Bool.{true, false, false≢true}
use mathlib.Core.List.{List, [], ◌∷◌}
use Prim.Native.Nat.{ℕ, zero, suc, ◌+◌, ◌-◌, ◌*◌, ◌/◌, ◌%◌, ◌^◌, ◌≤◌, ◌<◌}
use native.Mathlib.Omega.{arith}
use native.Mathlib.Nat.{pow-suc, pow-succ', one-le-pow, pow-le-pow_right, add-mul, mul_assoc, add_assoc, mod-lt}
use native.Mathlib.Nat.{mod-eq_of_lt, zero-add, div-lt_iff_lt-mul, le-div_iff_mul-le, mul-le-mul_right, le_antisymm, div-div-eq-div-mul}
use lib.ListN.{length, set, length-set}
use lib.Arith.{mod-mul, digits_div, digits_lt}
use borrow.Author.Tests.{ne_eqb, lt-ltb, le-ltb, eqb-false}
use Rattle.digits.specs.Digits.{fixed, tens_within, tens, decimal, is_digit, all_digits, from, spare}
use Rattle.digits.specs.Written.{put, Written}
use Rattle.std.proofs.lemmas.Bool.{and_parts}
use Rattle.digits.proofs.Read.{compare, digit_yes, digit_bounds}
use Rattle.digits.proofs.Put.{put-nil, put-before}

pub power_positive : (k : ℕ) → 0 < 10 ^ k
power_positive k = one-le-pow k 10 (omega arith)

-- ---- the last k digits of n

pub fixed-length : (k n : ℕ) → length (fixed k n) ≡ k
unfolding fixed
fixed-length zero n = refl
fixed-length (suc k) n = ap suc (fixed-length k n)

pub fixed_digits_lem : (k n : ℕ) → all_digits (fixed k n) ≡ true
unfolding fixed all_digits
fixed_digits_lem zero n = refl
fixed_digits_lem (suc k) n =
    let h : n / 10 ^ k % 10 < 10 = mod-lt (n / 10 ^ k) (omega arith) in
    rw (digit_yes (48 + n / 10 ^ k % 10) (omega arith) (omega arith)) (fixed_digits_lem k n)

-- digits written, read after the number a
pub from_fixed : (a k n : ℕ) → from a (fixed k n) ≡ a * 10 ^ k + n % 10 ^ k
unfolding fixed from
from_fixed a zero n = omega arith
from_fixed a (suc k) n =
    let q : ℕ = n / 10 ^ k % 10 in
    let e : 48 + q - 48 ≡ q = omega arith in
    from_fixed (a * 10 + (48 + q - 48)) k n
    ∙ ap (λ (x : ℕ). (a * 10 + x) * 10 ^ k + n % 10 ^ k) e
    ∙ rw (pow-succ', mod-mul n {m = 10} {c = 10 ^ k} (omega arith) (power_positive k)) (simp (add-mul, mul_assoc, add_assoc))

-- what stands before the digits counts 10 ^ length times
pub from_shift : (s : List ℕ) (a : ℕ) → from a s ≡ a * 10 ^ length s + from 0 s
unfolding from
from_shift [] a = omega arith
from_shift (b ∷ r) a =
    from_shift r (a * 10 + (b - 48)) ∙ rw (from_shift r (0 + (b - 48)), pow-succ') (simp (zero-add, add-mul, mul_assoc, add_assoc))

-- a digit and those behind it
pub digits-cons : (b : ℕ) (r : List ℕ) → all_digits (b ∷ r) ≡ true → (is_digit b ≡ true) × (all_digits r ≡ true)
unfolding all_digits
digits-cons b r e = and_parts (is_digit b) (all_digits r) e

pub from_below : (s : List ℕ) → all_digits s ≡ true → from 0 s < 10 ^ length s
unfolding from
from_below [] e = omega arith
from_below (b ∷ r) e =
    let p = digits-cons b r e in
    let d = digit_bounds b p.0 in
    rw (from_shift r (0 + (b - 48)), pow-succ') (digits_lt {q = 0 + (b - 48)} {m = 10} (omega arith) (from_below r p.1))

-- digits read after the number c, written
pub fixed_from : (s : List ℕ) (c : ℕ) → all_digits s ≡ true → fixed (length s) (from c s) ≡ s
unfolding fixed from
fixed_from [] c e = refl
fixed_from (b ∷ r) c e =
    let p = digits-cons b r e in
    let d = digit_bounds b p.0 in
    let n : ℕ = from (c * 10 + (b - 48)) r in
    let q : n / 10 ^ length r ≡ c * 10 + (b - 48) =
    ap (λ (x : ℕ). x / 10 ^ length r) (from_shift r (c * 10 + (b - 48))) ∙ digits_div (c * 10 + (b - 48)) (from_below r p.1)
    in
    let h : 48 + n / 10 ^ length r % 10 ≡ b = omega arith in
    ap₂ (λ (x : ℕ) (l : List ℕ). x ∷ l) h (fixed_from r (c * 10 + (b - 48)) p.1)

-- ---- how many digits n has

-- u digits stand after the first
pub record Wide (u n : ℕ) : Type 0 where
  pub upper : n < 10 ^ suc u
  pub lower : 0 < n → 10 ^ u ≤ n
  pub none : n ≡ 0 → u ≡ 0

wide-le : (u v n : ℕ) → Wide u n → Wide v n → u ≤ v
wide-le u v n p q = grind (arith, common_steps, pow-le-pow_right)

pub wide_unique : (u v n : ℕ) → Wide u n → Wide v n → u ≡ v
wide_unique u v n p q = le_antisymm (wide-le u v n p q) (wide-le v u n q p)

within_wide : (most n : ℕ) → n < 10 ^ suc most → Wide (tens_within most n) n
unfolding tens_within
within_wide zero n h = record { upper = h; lower = λ k. k; none = λ k. refl }
within_wide (suc most) n h =
    compare 10 n
    (λ k.
    let i : n / 10 < 10 ^ suc most = (div-lt_iff_lt-mul {k = 10} (omega arith)).1 (rw pow-suc at h) in
    let w = within_wide most (n / 10) i in
    rw (le-ltb n 10 k)
    (record {
      upper = rw pow-suc ((div-lt_iff_lt-mul {k = 10} (omega arith)).0 w.upper);
      lower = λ j. rw pow-suc ((le-div_iff_mul-le {k = 10} (omega arith)).0 (w.lower (omega arith)));
      none = λ j. absurd (omega arith);
    }))
    (λ k. rw (lt-ltb n 10 k) (record { upper = k; lower = λ j. j; none = λ j. refl }))

pub tens_wide : (n : ℕ) → n < 10 ^ 20 → Wide (tens n) n
unfolding tens
tens_wide n h = within_wide 19 n h

-- digits with no spare zero
from_wide : (b : ℕ) (r : List ℕ) → spare (b ∷ r) ≡ false → all_digits (b ∷ r) ≡ true → Wide (length r) (from 0 (b ∷ r))
unfolding from spare
from_wide b [] e d = record { upper = from_below (b ∷ []) d; lower = λ k. k; none = λ k. refl }
from_wide b (c ∷ r) e d =
    let p = digits-cons b (c ∷ r) d in
    let k = digit_bounds b p.0 in
    let f = eqb-false b 48 e in
    let one : 1 ≤ 0 + (b - 48) = omega arith in
    let v : from 0 (b ∷ c ∷ r) ≡ (0 + (b - 48)) * 10 ^ length (c ∷ r) + from 0 (c ∷ r) = from_shift (c ∷ r) (0 + (b - 48)) in
    let low : 10 ^ length (c ∷ r) ≤ from 0 (b ∷ c ∷ r) = rw v (omega (arith, mul-le-mul_right (10 ^ length (c ∷ r)) one)) in
    record { upper = from_below (b ∷ c ∷ r) d; lower = λ j. low; none = λ j. absurd (omega (arith, low, power_positive (length (c ∷ r)))) }

spare_fixed : (t n : ℕ) → Wide t n → spare (fixed (suc t) n) ≡ false
unfolding spare fixed
spare_fixed zero n w = refl
spare_fixed (suc u) n w =
    compare 1 n
    (λ k.
    let q : ℕ = n / 10 ^ suc u in
    let lo : 1 ≤ q = (le-div_iff_mul-le (power_positive (suc u))).1 (omega (arith, w.lower k)) in
    let hi : q < 10 = (div-lt_iff_lt-mul (power_positive (suc u))).1 (rw pow-succ' at w.upper) in
    ne_eqb (48 + q % 10) 48 (λ z. omega arith))
    (λ k. absurd (omega (arith, w.none (omega arith))))

-- ---- n with no spare zero

pub decimal-length : (n : ℕ) → length (decimal n) ≡ suc (tens n)
unfolding decimal
decimal-length n = fixed-length (suc (tens n)) n

pub decimal_spare : (n : ℕ) → n < 10 ^ 20 → spare (decimal n) ≡ false
unfolding decimal
decimal_spare n h = spare_fixed (tens n) n (tens_wide n h)

pub decimal_digits : (n : ℕ) → all_digits (decimal n) ≡ true
unfolding decimal
decimal_digits n = fixed_digits_lem (suc (tens n)) n

pub decimal_from : (n : ℕ) → n < 10 ^ 20 → from 0 (decimal n) ≡ n
unfolding decimal
decimal_from n h = from_fixed 0 (suc (tens n)) n ∙ rw (mod-eq_of_lt (tens_wide n h).upper) (omega arith)

pub from_decimal : (s : List ℕ) → spare s ≡ false → all_digits s ≡ true → from 0 s < 10 ^ 20 → decimal (from 0 s) ≡ s
unfolding decimal spare
from_decimal [] a d h = absurd (false≢true (sym a))
from_decimal (b ∷ r) a d h =
    let t : tens (from 0 (b ∷ r)) ≡ length r =
    wide_unique (tens (from 0 (b ∷ r))) (length r) (from 0 (b ∷ r)) (tens_wide (from 0 (b ∷ r)) h) (from_wide b r a d)
    in
    rw t (fixed_from (b ∷ r) 0 d)

-- the power of ten that is at most n, and the next one that is not
pub tens_of_power : (n k : ℕ) → n < 10 ^ 20 → 10 ^ k ≤ n → n < 10 * 10 ^ k → k ≡ tens n
tens_of_power n k h low high =
    wide_unique k (tens n) n
    (record { upper = rw (pow-succ') high; lower = λ _. low; none = λ e. absurd (omega (arith, low, power_positive k)) })
    (tens_wide n h)

pub tens_none : (n : ℕ) → n ≡ 0 → 0 ≡ tens n
tens_none n e = sym ((tens_wide n (omega arith)).none e)

-- ---- a loop over the digits: w digits are passed, and m is left
pub record Passed (n w m : ℕ) : Type 0 where
  pub most : w ≤ 19
  pub count : tens n ≡ w + tens_within (19 - w) m
  pub left : m < 10 ^ suc (19 - w)

pub passed_start : (n : ℕ) → n < 2 ^ 64 → Passed n 0 n
unfolding tens
passed_start n h = record { most = omega arith; count = sym (zero-add (tens n)); left = omega arith }

tens_step : (most m : ℕ) → 10 ≤ m → m < 10 ^ suc most
    → (g : ℕ) × (most ≡ suc g) × (tens_within most m ≡ suc (tens_within g (m / 10))) × (m / 10 < 10 ^ suc g)
unfolding tens_within
tens_step zero m h k = absurd (omega arith)
tens_step (suc g) m h k = (g, refl, rw (le-ltb m 10 h), (div-lt_iff_lt-mul {k = 10} (omega arith)).1 (rw pow-suc at k))

tens_small : (most m : ℕ) → m < 10 → tens_within most m ≡ 0
unfolding tens_within
tens_small zero m h = refl
tens_small (suc most) m h = rw (lt-ltb m 10 h)

module _ (n w m : ℕ) (t : Passed n w m) where
  pub passed_again : 10 ≤ m → Passed n (w + 1) (m / 10)
  passed_again h =
      let s = tens_step (19 - w) m h t.left in
      let e : 19 - (w + 1) ≡ s.0 = omega (arith, s.1) in
      record { most = omega (arith, s.1); count = rw e (omega (arith, t.count, s.2)); left = rw e s.3 }

  pub passed_end : m < 10 → (w ≡ tens n) × (w ≤ 19)
  passed_end h = (omega (arith, t.count, tens_small (19 - w) m h), t.most)

-- ---- a loop that writes the last k digits of n, the last one first: those from the i-th on are written
pub record FixedFrom (d : List ℕ) (at k n : ℕ) (d' : List ℕ) (m i : ℕ) : Type 0 where
  pub high : i ≤ k
  pub bytes : d' ≡ put d (at + i) (fixed (k - i) n)
  pub left : m ≡ n / 10 ^ (k - i)
  pub long : length d' ≡ length d

module _ (d : List ℕ) (at k n : ℕ) where
  pub fixed_start : FixedFrom d at k n d n k
  unfolding fixed
  fixed_start = grind (arith, common_steps, put-nil)

  module _ (d' : List ℕ) (m i : ℕ) (v : FixedFrom d at k n d' m i) where
    pub fixed_again : at + k ≤ length d → 0 < i → FixedFrom d at k n (set d' (at + (i - 1)) (48 + m % 10)) (m / 10) (i - 1)
    unfolding fixed
    fixed_again f h =
        let j : ℕ = k - i in
        let s : k - (i - 1) ≡ suc j = omega (arith, v.high) in
        let q : at + i ≡ at + (i - 1) + 1 = omega arith in
        record {
          high = omega (arith, v.high);
          bytes =
              rw (s, v.bytes, v.left)
              (ap (λ (x : ℕ). set (put d x (fixed j n)) (at + (i - 1)) (48 + n / 10 ^ j % 10)) q
              ∙ put-before d (at + (i - 1)) (48 + n / 10 ^ j % 10) (fixed j n) (omega (arith, fixed-length j n, v.high)));
          left = rw (s, v.left, pow-suc) (div-div-eq-div-mul n (10 ^ j) 10);
          long = length-set d' (at + (i - 1)) (48 + m % 10) ∙ v.long;
        }

    pub fixed_end : i ≤ 0 → Written d at (fixed k n) d' (at + k)
    fixed_end h = grind (arith, common_steps, fixed-length)
