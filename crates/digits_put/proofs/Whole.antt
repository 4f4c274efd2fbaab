-- The loop of `put_all`: as many digits as the number has, from the right.
use mathlib.Core.Path.{◌≡◌, ap, ◌∙◌, sym, subst}
use mathlib.Core.List.{List}
use Prim.Native.Nat.{ℕ, suc, ◌+◌, ◌-◌, ◌/◌, ◌%◌, ◌^◌, ◌≤◌, ◌<◌}
use native.Mathlib.Nat.{div-add-mod', mod-lt}
use native.Mathlib.Omega.{arith}
use lib.ListN.{length, set}
use Rattle.digits.specs.Digits.{fixed, tens, decimal}
use Rattle.digits.specs.Written.{put, Written}
use Rattle.digits.proofs.Count.{fixed-length, Passed, passed_start, passed_again, passed_end, FixedFrom, fixed_start, fixed_again, fixed_end}

-- one place to the left, between the start a and the end e
one_left : (a i e : ℕ) → a < i → i < e
    → (e - suc (i - 1) ≡ e - suc i + 1) × (suc (i - 1) - a ≡ suc i - a - 1) × (a ≤ i - 1) × (i - 1 < e)
one_left a i e h l = (omega arith, omega arith, omega arith, omega arith)

-- where n starts that ends d
abbrev start_of : List ℕ → ℕ → ℕ
start_of d n = length d - suc (tens n)

-- m is left of n, its digits behind the i-th place are written
pub record WholeFrom (d : List ℕ) (n : ℕ) (d' : List ℕ) (i m : ℕ) : Type 0 where
  pub passed : Passed n (length d - suc i) m
  pub digits : FixedFrom d (start_of d n) (suc (tens n)) n d' m (suc i - start_of d n)
  pub low : start_of d n ≤ i
  pub high : i < length d

module _ (d : List ℕ) (n : ℕ) (room : suc (tens n) ≤ length d) where
  pub whole_start : n < 2 ^ 64 → WholeFrom d n d (length d - 1) n
  whole_start h =
      let w : length d - suc (length d - 1) ≡ 0 = omega arith in
      let k : suc (length d - 1) - start_of d n ≡ suc (tens n) = omega arith in
      record {
        passed = rw w (passed_start n h);
        digits = rw k (fixed_start d (start_of d n) (suc (tens n)) n);
        low = omega arith;
        high = omega arith;
      }

  module _ (d' : List ℕ) (i m : ℕ) (v : WholeFrom d n d' i m) where
    -- one digit more
    more : FixedFrom d (start_of d n) (suc (tens n)) n (set d' i (48 + m % 10)) (m / 10) (suc i - start_of d n - 1)
    more =
        let place : start_of d n + (suc i - start_of d n - 1) ≡ i = omega (arith, v.low) in
        subst (λ (p : ℕ). FixedFrom d (start_of d n) (suc (tens n)) n (set d' p (48 + m % 10)) (m / 10) (suc i - start_of d n - 1)) place
        (fixed_again d (start_of d n) (suc (tens n)) n d' m (suc i - start_of d n) v.digits (omega arith) (omega (arith, v.low)))

    -- a place is left for it
    pub whole_left : 10 ≤ m → start_of d n < i
    whole_left h =
        let longer : length d - suc i + 1 ≤ tens n = omega (arith, (passed_again n (length d - suc i) m v.passed h).count) in
        omega (arith, v.high)

    pub whole_again : 10 ≤ m → WholeFrom d n (set d' i (48 + m % 10)) (i - 1) (m / 10)
    whole_again h =
        let f = one_left (start_of d n) i (length d) (whole_left h) v.high in
        record { passed = rw f.0 (passed_again n (length d - suc i) m v.passed h); digits = rw f.1 more; low = f.2; high = f.3 }

    pub whole_end : m < 10 → (set d' i (48 + m % 10) ≡ put d i (decimal n)) × (i + length (decimal n) ≡ length d)
    unfolding decimal
    whole_end h =
        let w = (passed_end n (length d - suc i) m v.passed h).0 in
        let last : suc i - start_of d n - 1 ≤ 0 = omega (arith, v.high) in
        let here : start_of d n ≡ i = omega (arith, v.low, v.high, w) in (
          (fixed_end d (start_of d n) (suc (tens n)) n _ (m / 10) (suc i - start_of d n - 1) more last).bytes
              ∙ ap (λ (p : ℕ). put d p (fixed (suc (tens n)) n)) here,
          omega (arith, here, fixed-length (suc (tens n)) n),
        )

-- the loop over the places from the right: i places are left
pub record AllFrom (d : List ℕ) (n : ℕ) (d' : List ℕ) (i m : ℕ) : Type 0 where
  pub some : 0 < i
  pub whole : WholeFrom d n d' (i - 1) m

module _ (d : List ℕ) (n : ℕ) (room : suc (tens n) ≤ length d) where
  pub all_start : n < 2 ^ 64 → AllFrom d n d (length d) n
  all_start h = record { some = omega arith; whole = whole_start d n room h }

  module _ (d' : List ℕ) (i m : ℕ) (v : AllFrom d n d' i m) where
    ten : (m / 10 ≡ 0 → ⊥) → 10 ≤ m
    ten h = omega (arith, h, div-add-mod' m 10)

    pub all_again : {q b : ℕ} → q ≡ m / 10 → b ≡ 48 + m % 10 → (q ≡ 0 → ⊥) → AllFrom d n (set d' (i - 1) b) (i - 1) q
    all_again e f h =
        let more = ten (λ z. h (e ∙ z)) in
        rw (e, f) (record { some = omega (arith, whole_left d n room d' (i - 1) m v.whole more); whole = whole_again d n room d' (i - 1) m v.whole more })

    pub all_end : {q b : ℕ} → q ≡ m / 10 → b ≡ 48 + m % 10 → q ≡ 0 → Written d (i - 1) (decimal n) (set d' (i - 1) b) (length d)
    all_end e f z =
        let low : m % 10 < 10 = mod-lt m (omega arith) in
        let last : m < 10 = omega (arith, e, z, div-add-mod' m 10) in
        let done = whole_end d n room d' (i - 1) m v.whole last in
        rw f (record { bytes = done.0; next = sym done.1 })
