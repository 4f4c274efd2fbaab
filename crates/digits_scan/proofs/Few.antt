-- Digits read one after another, up to the cap or too few to meet it.
use Rattle.std.proofs.Common.{◌≡◌, ℕ, suc, refl, cond, Some, None, ◌+◌, ◌-◌, ◌*◌, ◌^◌, ◌<◌, ◌≤◌, Bool, true, false, List, length, get_or, sym, ap, ◌∙◌, mul_assoc, arith}
use Rattle.std.proofs.Math.Nat.{mul-le-mul_right}
use native.Mathlib.Nat.{pow-succ', sub-zero}
use Rattle.std.proofs.lemmas.Option.{cond_some, none-some}
use Rattle.digits.specs.Digits.{is_digit, cap, capped}
use Rattle.digits.proofs.Read.{ReadTo, digit_bounds, capped_small, read_start, read_again}
use Rattle.digits.proofs.Count.{power_positive}

-- what `digit_of` says of a byte
pub digit_there : (b d : ℕ) → Some d ≡ cond (is_digit b) (Some (b - 48)) None → (is_digit b ≡ true) × (d ≡ b - 48) × (d ≤ 9)
digit_there b d e =
    let f = cond_some (is_digit b) (b - 48) d (sym e) in
    let h = digit_bounds b f.0 in
    (f.0, sym f.1, omega (arith, f.1))

pub no_digit : (b : ℕ) → None ≡ cond (is_digit b) (Some (b - 48)) None → is_digit b ≡ false
no_digit b e = by_test (is_digit b) e
  where
    by_test : (t : Bool) → None ≡ cond t (Some (b - 48)) None → t ≡ false
    by_test true e = absurd (none-some _ e)
    by_test false e = refl

-- digits that are too few to meet the cap: nor does what stands before them
low_before : (before n : ℕ) → (before + 1) * 10 ^ n ≤ cap → before ≤ cap
low_before before n h =
    let one : 1 * (before + 1) ≤ 10 ^ n * (before + 1) = mul-le-mul_right (before + 1) (power_positive n) in
    omega (arith, one, h)

-- i digits are read, and what they make is a; with no look at the cap it stays below it, whatever the digits that are left
pub record Reads (capping : Bool) (s : List ℕ) (before i a : ℕ) : Type 0 where
  pub read : ReadTo s before i a
  pub room : capping ≡ false → (a + 1) * 10 ^ (length s - i) ≤ cap

module _ (capping : Bool) (s : List ℕ) (before : ℕ) where
  pub reads_start : (capping ≡ true → before ≤ cap) → (capping ≡ false → (before + 1) * 10 ^ length s ≤ cap) → Reads capping s before 0 before
  reads_start low few = record { read = read_start s before (within capping low few); room = λ e. rw sub-zero (few e) }
    where
      within : (b : Bool) → (b ≡ true → before ≤ cap) → (b ≡ false → (before + 1) * 10 ^ length s ≤ cap) → before ≤ cap
      within true low few = low refl
      within false low few = low_before before (length s) (few refl)

  module _ (i a : ℕ) (t : Reads capping s before i a) (more : i < length s) (d : ℕ) (low : d ≤ 9) (digit : is_digit (get_or s i 0) ≡ true) (is : d ≡ get_or s i 0 - 48) where
    next : (w : ℕ) → w ≡ capped (a * 10 + d) → ReadTo s before (i + 1) w
    next w e = read_again s before i a t.read w more digit (e ∙ ap (λ (x : ℕ). capped (a * 10 + x)) is)

    pub reads_capped : capping ≡ true → (w : ℕ) → w ≡ capped (a * 10 + d) → Reads capping s before (i + 1) w
    reads_capped on w e = record { read = next w e; room = λ off. cc }

    module _ (off : capping ≡ false) where
      -- the room before the next digit is taken
      room_next : ((a + 1) * 10) * 10 ^ (length s - (i + 1)) ≤ cap
      room_next =
          let k : length s - i ≡ suc (length s - (i + 1)) = omega arith in
          rw (mul_assoc (a + 1) 10 (10 ^ (length s - (i + 1))), ← pow-succ', ← k) (t.room off)

      room_here : (a + 1) * 10 ≤ cap
      room_here =
          let one : 1 * ((a + 1) * 10) ≤ 10 ^ (length s - (i + 1)) * ((a + 1) * 10) =
          mul-le-mul_right ((a + 1) * 10) (power_positive (length s - (i + 1))) in
          omega (arith, one, room_next)

      pub reads_few : Reads capping s before (i + 1) (a * 10 + d)
      reads_few =
          let step : (a * 10 + d + 1) * 10 ^ (length s - (i + 1)) ≤ ((a + 1) * 10) * 10 ^ (length s - (i + 1)) =
          mul-le-mul_right (10 ^ (length s - (i + 1))) (omega arith) in
          record {
            read = next (a * 10 + d) (sym (capped_small (a * 10 + d) (omega (arith, room_here, low))));
            room = λ _. omega (arith, step, room_next);
          }
