-- Digits that are too few to meet the cap: what is read before the point leaves room for the decimals.
use Rattle.std.proofs.Common.{◌≡◌, ℕ, ◌+◌, ◌*◌, ◌^◌, ◌≤◌, Option, Some, List, length, mul-le-mul_right, arith}
use Rattle.std.proofs.lemmas.Grind.{common_steps}
use native.Mathlib.Nat.{pow-le-pow_right}
use lib.Pow.{pow-add}
use Rattle.digits.specs.Digits.{from, cap, capped, is_whole, size_reading}
use Rattle.digits.proofs.Read.{capped_small, capped_large, size_known, whole_facts, known_within, plain_whole, plain_short, plain_point, plain_ill, plain_known}
use Rattle.digits.proofs.Count.{from_below}

-- the cap only lessens a number
capped_below : (n : ℕ) → capped n ≤ n
capped_below n = grind (arith, common_steps, capped_small, capped_large)

-- fewer digits are too few too
pub fewer : (s head : List ℕ) → length head ≤ length s → 10 ^ length s ≤ cap → 10 ^ length head ≤ cap
fewer s head within few = omega (arith, few, pow-le-pow_right {n = 10} (omega arith) within)

-- what the head says, with so many decimals behind it
pub head_room : (digits : Option ℕ) (s head : List ℕ) (n v : ℕ) → size_reading (is_whole digits head) (capped (from 0 head)) ≡ Some v
    → length head + n ≤ length s → 10 ^ length s ≤ cap → (v + 1) * 10 ^ n ≤ cap
head_room digits s head n v known within few =
    let is = size_known (is_whole digits head) (capped (from 0 head)) v known in
    let below = from_below head (whole_facts digits head is.0).1 in
    let low : (v + 1) * 10 ^ n ≤ 10 ^ length head * 10 ^ n = mul-le-mul_right (10 ^ n) (omega (arith, is.1, capped_below (from 0 head), below)) in
    omega (arith, low, pow-add 10 (length head) n, pow-le-pow_right {n = 10} (omega arith) within, few)

-- what the search is to know of a number with a point
pub ruleset pointed = (common_steps, known_within, plain_whole, plain_short, plain_point, plain_ill, plain_known, fewer, head_room)
