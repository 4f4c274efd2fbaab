-- Reading: digits one by one, as far as the cap, and a number before and after its point.
use Rattle.std.proofs.lemmas.Grind.{common_steps}
use mathlib.Core.Path.{◌≡◌, refl, sym, ◌∙◌}
use mathlib.Core.Bool.{Bool, true, false, and-false, and-true}
use mathlib.Core.List.{List, [], ◌∷◌}
use Prim.Native.Nat.{ℕ, suc, ◌+◌, ◌-◌, ◌*◌, ◌≤◌, ◌<◌}
use native.Mathlib.Omega.{arith}
use native.Mathlib.Numerals.{add-one}
use native.Mathlib.Decide.{dec_le}
use native.Mathlib.Nat.{lt_of_not-le}
use lib.ListN.{length, get_or, take, drop, drop_of_length-le}
use lib.Seq.{drop-cons}
use lib.Dec.{leb}
use borrow.Author.Tests.{le-leb, lt-leb, le-ltb, eq-eqb, ne_eqb}
use Rattle.sequences.specs.Every.{every, inside}
use Rattle.sequences.proofs.Every.{every_at, inside-true, inside_facts}
use Rattle.digits.specs.declared.Form.{Form}
use Rattle.std.specs.Prelude.{Option, Some, None}
use Rattle.digits.specs.Digits.{is_digit, all_digits, from, cap, capped, is_shaped, is_whole, point_at, is_plain, plain_size, size_reading, read_on}

-- a is at most b, or more
pub compare {ℓ} : {X : Type ℓ} (a b : ℕ) → (a ≤ b → X) → (b < a → X) → X
compare a b f g = elim (dec_le a b) [ yes h ↦ f h | no h ↦ g (lt_of_not-le h) ]

-- ---- a digit

pub digit_yes : (b : ℕ) → 48 ≤ b → b ≤ 57 → is_digit b ≡ true
unfolding is_digit
digit_yes b h k = inside-true 48 57 b h k

pub digit_low : (b : ℕ) → b < 48 → is_digit b ≡ false
unfolding is_digit inside
digit_low b h = rw (lt-leb 48 b h)

pub digit_high : (b : ℕ) → 57 < b → is_digit b ≡ false
unfolding is_digit inside
digit_high b h = rw (lt-leb b 57 h) (and-false (leb 48 b))

pub digit_bounds : (b : ℕ) → is_digit b ≡ true → (48 ≤ b) × (b ≤ 57)
unfolding is_digit
digit_bounds b e = inside_facts 48 57 b e

-- ---- the cap

pub capped_small : (n : ℕ) → n ≤ cap → capped n ≡ n
unfolding capped
capped_small n h = rw (le-leb n cap h)

pub capped_large : (n : ℕ) → cap < n → capped n ≡ cap
unfolding capped
capped_large n h = rw (lt-leb n cap h)

pub capped_within : (n : ℕ) → capped n ≤ cap
capped_within n = grind (arith, common_steps, capped_small, capped_large)

-- below the cap nothing is lost
pub capped_exact : (n : ℕ) → capped n < cap → capped n ≡ n
capped_exact n l = compare n cap (capped_small n) (λ h. absurd (omega (arith, capped_large n h)))

-- what is read is no less than the number before it
pub from_grows : (r : List ℕ) (a : ℕ) → a ≤ from a r
unfolding from
from_grows [] a = omega arith
from_grows (b ∷ r) a = let h : a * 10 + (b - 48) ≤ from (a * 10 + (b - 48)) r = from_grows r (a * 10 + (b - 48)) in omega arith

-- past the cap the digits that follow do not matter
capped_from : (n : ℕ) (r : List ℕ) → capped (from (capped n) r) ≡ capped (from n r)
capped_from n r = grind (arith, common_steps, capped_small, capped_large, from_grows)

-- ---- the loop of `read_on`: i digits of s are read, and with what stood before them they make a
pub record ReadTo (s : List ℕ) (before i a : ℕ) : Type 0 where
  pub inside : i ≤ length s
  pub within : a ≤ cap
  pub well : all_digits s ≡ all_digits (drop i s)
  pub size : capped (from before s) ≡ capped (from a (drop i s))

module _ (s : List ℕ) (before : ℕ) where
  pub read_start : before ≤ cap → ReadTo s before 0 before
  read_start h = record { inside = omega arith; within = h; well = refl; size = refl }

  module _ (i a : ℕ) (t : ReadTo s before i a) where
    pub read_again : (w : ℕ) → i < length s → is_digit (get_or s i 0) ≡ true → w ≡ capped (a * 10 + (get_or s i 0 - 48)) → ReadTo s before (i + 1) w
    unfolding all_digits from
    read_again w h d e =
        record {
          inside = omega arith;
          within = rw e (capped_within _);
          well = t.well ∙ rw (add-one, drop-cons s i 0, d);
          size = t.size ∙ rw (add-one, drop-cons s i 0, e) (sym (capped_from (a * 10 + (get_or s i 0 - 48)) (drop (suc i) s)));
        }

    pub read_ill : i < length s → is_digit (get_or s i 0) ≡ false → None ≡ read_on before s
    unfolding read_on all_digits
    read_ill h e = rw (t.well, drop-cons s i 0, e)

    pub read_end : length s ≤ i → Some a ≡ read_on before s
    unfolding read_on all_digits from
    read_end h = rw (t.well, t.size, drop_of_length-le s h, capped_small a t.within)

-- ---- before the point

pub shaped_fixed : (digits : ℕ) (s : List ℕ) → length s ≡ digits → is_shaped (Some digits) s ≡ true
unfolding is_shaped
shaped_fixed digits s h = eq-eqb (length s) digits h

module _ (digits : Option ℕ) (s : List ℕ) where
  pub whole_ill : (n : ℕ) → is_shaped digits s ≡ false → None ≡ size_reading (is_whole digits s) n
  unfolding is_whole is_shaped every
  whole_ill n e = rw e

  pub whole-true : is_shaped digits s ≡ true → all_digits s ≡ true → is_whole digits s ≡ true
  unfolding is_whole is_shaped every
  whole-true e d = rw (e, d)

  pub whole_facts : is_whole digits s ≡ true → (is_shaped digits s ≡ true) × (all_digits s ≡ true)
  unfolding is_whole is_shaped
  whole_facts e = (every_at _ e 0, every_at _ e 1)

  pub whole_known : is_shaped digits s ≡ true → read_on 0 s ≡ size_reading (is_whole digits s) (capped (from 0 s))
  unfolding is_whole is_shaped every read_on
  whole_known e = rw (e, and-true)

-- ---- with the decimals of the form

-- what a size that is read says of its test
pub size_ill : (b : Bool) (n : ℕ) → size_reading b n ≡ None → b ≡ false
size_ill true n e = let z : ◌≡◌ {A = ℕ} 0 1 = cc in absurd (omega arith)
size_ill false n e = refl

pub size_known : (b : Bool) (n v : ℕ) → size_reading b n ≡ Some v → (b ≡ true) × (n ≡ v)
size_known true n v e = (refl, cc)
size_known false n v e = let z : ◌≡◌ {A = ℕ} 0 1 = cc in absurd (omega arith)

pub known_within : (digits : Option ℕ) (s : List ℕ) (v : ℕ) → size_reading (is_whole digits s) (capped (from 0 s)) ≡ Some v → v ≤ cap
known_within digits s v e = omega (arith, (size_known (is_whole digits s) (capped (from 0 s)) v e).1, capped_within (from 0 s))

module _ (f : Form) (s : List ℕ) where
  -- the place of the point, as the code has it
  abbrev pub point_place : ℕ
  point_place = length s - (f.decimals + 1)

  pub plain_whole : f.decimals ≡ 0 → size_reading (is_whole f.digits s) (capped (from 0 s)) ≡ size_reading (is_plain f s) (plain_size f s)
  unfolding is_plain plain_size
  plain_whole e = rw (eq-eqb f.decimals 0 e)

  module _ (some : f.decimals ≡ 0 → ⊥) where
    pub plain_short : length s ≤ f.decimals → None ≡ size_reading (is_plain f s) (plain_size f s)
    unfolding is_plain every point_at
    plain_short h = rw (ne_eqb f.decimals 0 some, le-ltb f.decimals (length s) h)

    pub plain_point : (get_or s point_place 0 ≡ 46 → ⊥) → None ≡ size_reading (is_plain f s) (plain_size f s)
    unfolding is_plain every point_at
    plain_point h = rw (ne_eqb f.decimals 0 some, ne_eqb (get_or s point_place 0) 46 h, and-false, and-false)

    pub plain_ill : (n : ℕ) → size_reading (is_whole f.digits (take point_place s)) n ≡ None → None ≡ size_reading (is_plain f s) (plain_size f s)
    unfolding is_plain every point_at
    plain_ill n e = rw (ne_eqb f.decimals 0 some, size_ill (is_whole f.digits (take point_place s)) n e, and-false)

    pub plain_known : (v : ℕ) → f.decimals < length s → get_or s point_place 0 ≡ 46
        → size_reading (is_whole f.digits (take point_place s)) (capped (from 0 (take point_place s))) ≡ Some v
        → read_on v (drop (point_place + 1) s) ≡ size_reading (is_plain f s) (plain_size f s)
    unfolding is_plain plain_size every point_at read_on
    plain_known v l h e = grind (arith, common_steps, size_known, capped_from)
