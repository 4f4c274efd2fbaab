-- The loop of `put_last`: the digits from the i-th place on are written.
use Rattle.std.proofs.Common.{◌≡◌, refl, ap, ap₂, ◌∙◌, ℕ, suc, ◌+◌, ◌-◌, ◌/◌, ◌%◌, ◌^◌, ◌≤◌, ◌<◌, List, ◌∷◌, length, set, drop, length-set, drop-cons}
use Rattle.std.proofs.Common.{drop-set-lt, get_or-set_same, drop_of_length-le, pow-suc, arith}
use native.Mathlib.Nat.{div-div-eq-div-mul}
use Rattle.digits.specs.Digits.{fixed}

pub record LastFrom (d : List ℕ) (n : ℕ) (d' : List ℕ) (m i : ℕ) : Type 0 where
  pub high : i ≤ length d
  pub bytes : drop i d' ≡ fixed (length d - i) n
  pub left : m ≡ n / 10 ^ (length d - i)
  pub long : length d' ≡ length d

module _ (d : List ℕ) (n : ℕ) where
  pub last_start : LastFrom d n d n (length d)
  unfolding fixed
  last_start =
      let e : length d - length d ≡ 0 = omega arith in
      record { high = omega arith; bytes = rw e (drop_of_length-le d (omega arith)); left = rw e (omega arith); long = refl }

  module _ (d' : List ℕ) (m i : ℕ) (v : LastFrom d n d' m i) where
    pub last_again : 0 < i → LastFrom d n (set d' (i - 1) (48 + m % 10)) (m / 10) (i - 1)
    unfolding fixed
    last_again h =
        let j : ℕ = length d - i in
        let s : length d - (i - 1) ≡ suc j = omega (arith, v.high) in
        let next : suc (i - 1) ≡ i = omega arith in
        let here : i - 1 < length d' = omega (arith, v.high, v.long) in
        let b : ℕ = 48 + m % 10 in
        record {
          high = omega (arith, v.high);
          bytes =
              rw s
              (drop-cons (set d' (i - 1) b) (i - 1) 0 (rw length-set here)
              ∙ ap₂ (λ (x : ℕ) (r : List ℕ). x ∷ r) (get_or-set_same d' (i - 1) b 0 here ∙ ap (λ (x : ℕ). 48 + x % 10) v.left)
              (drop-set-lt (suc (i - 1)) d' (i - 1) b (omega arith) ∙ ap (λ (k : ℕ). drop k d') next ∙ v.bytes));
          left = rw (s, v.left, pow-suc) (div-div-eq-div-mul n (10 ^ j) 10);
          long = length-set d' (i - 1) b ∙ v.long;
        }
