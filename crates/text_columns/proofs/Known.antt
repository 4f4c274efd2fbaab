-- The low four bits of bytes: of digits they spell the same number, of blanks 0. So of a column that is right they spell what is read of it.
use Prim.Native.Nat.{ℕ, zero, suc, ◌+◌, ◌-◌, ◌*◌, ◌%◌, ◌^◌, ◌≤◌, ◌<◌}
use mathlib.Core.Path.{◌≡◌, refl, sym, ap, ◌∙◌}
use mathlib.Core.Bool.{Bool, true, false, cond, false≢true}
use mathlib.Core.List.{List, [], ◌∷◌}
use native.Mathlib.Nat.{add-mul, sub-zero, mul-le-mul_right, pow-le-pow_right}
use native.Mathlib.Numerals.{add-one}
use native.Mathlib.Omega.{arith}
use lib.Dec.{eqb}
use lib.ListN.{length, get_or, take, drop, length-drop, drop_of_length-le}
use lib.Pow.{pow-add}
use lib.Seq.{drop-cons, drop-drop, take_all, length-take-le}
use borrow.Author.Tests.{ltb-true, eqb-true, eq-eqb, ne_eqb}
use Rattle.std.proofs.lemmas.List.{take_rest}
use Rattle.std.specs.Prelude.{Some, None, is_some}
use Rattle.digits.specs.declared.Form.{Form}
use Rattle.digits.specs.Digits.{cap, is_digit, all_digits, from, capped, blanks, point_at, is_plain, plain_size, all_blank, size_reading}
use Rattle.digits.proofs.Read.{digit_bounds, capped_small, from_grows, whole_facts}
use Rattle.digits.proofs.Count.{digits-cons, from_shift, from_below}
use Rattle.sequences.proofs.Every.{every_at}
use Rattle.text_rules.specs.declared.Column.{Column}
use Rattle.text_rules.specs.Columns.{column_form}
use Rattle.text_rules.specs.Well.{most_width}
use Rattle.text_columns.specs.Known.{low_from}
use Rattle.text_columns.specs.Read.{cell_size}
use Rattle.text_columns.proofs.Numbers.{number_bare}

-- `read_low`: i bytes are read, and with what stood before them they make a.

low_grows : (r : List ℕ) (a : ℕ) → a ≤ low_from a r
unfolding low_from
low_grows [] a = omega arith
low_grows (b ∷ r) a = omega (arith, low_grows r (a * 10 + b % 16))

pub record LowTo (s : List ℕ) (before i a : ℕ) : Type 0 where
  pub inside : i ≤ length s
  pub low : low_from before s ≤ cap
  pub rest : low_from before s ≡ low_from a (drop i s)

module _ (s : List ℕ) (before : ℕ) where
  pub low_start : low_from before s ≤ cap → LowTo s before 0 before
  low_start h = record { inside = omega arith; low = h; rest = refl }

  module _ (i a : ℕ) (t : LowTo s before i a) where
    low_step : i < length s → low_from before s ≡ low_from (a * 10 + get_or s i 0 % 16) (drop (i + 1) s)
    unfolding low_from
    low_step h = t.rest ∙ rw (add-one, drop-cons s i 0)

    -- the number read so far has room
    pub low_room : i < length s → a * 10 + get_or s i 0 % 16 ≤ cap
    low_room h = omega (arith, t.low, low_step h, low_grows (drop (i + 1) s) (a * 10 + get_or s i 0 % 16))

    pub low_again : i < length s → LowTo s before (i + 1) (a * 10 + get_or s i 0 % 16)
    low_again h = record { inside = omega arith; low = t.low; rest = low_step h }

    pub low_end : length s ≤ i → a ≡ low_from before s
    unfolding low_from
    low_end h = sym (t.rest ∙ rw (drop_of_length-le s h))

-- What they spell of digits.

low_digit : (b : ℕ) → is_digit b ≡ true → b % 16 ≡ b - 48
low_digit b e = let h = digit_bounds b e in omega (arith, h)

low_digits : (s : List ℕ) (a : ℕ) → all_digits s ≡ true → low_from a s ≡ from a s
unfolding low_from from
low_digits [] a e = refl
low_digits (b ∷ r) a e =
    let p = digits-cons b r e in
    ap (λ (x : ℕ). low_from (a * 10 + x) r) (low_digit b p.0) ∙ low_digits r (a * 10 + (b - 48)) p.1

-- blanks at the left do not count
low_trim : (s : List ℕ) (n : ℕ) → blanks s ≤ n → low_from 0 (take n s) ≡ low_from 0 (take (n - blanks s) (drop (blanks s) s))
unfolding blanks low_from
low_trim [] n h = ap (λ (k : ℕ). low_from 0 (take k [])) (sym (sub-zero n))
low_trim (b ∷ r) n h = by_byte (eqb b 32) refl (low_trim r) n h
  where
    by_byte : (t : Bool) → eqb b 32 ≡ t → ((n : ℕ) → blanks r ≤ n → low_from 0 (take n r) ≡ low_from 0 (take (n - blanks r) (drop (blanks r) r)))
        → (n : ℕ) → cond t (suc (blanks r)) 0 ≤ n
        → low_from 0 (take n (b ∷ r)) ≡ low_from 0 (take (n - cond t (suc (blanks r)) 0) (drop (cond t (suc (blanks r)) 0) (b ∷ r)))
    by_byte true e rest zero h = absurd (omega arith)
    by_byte true e rest (suc n) h =
        let k : n - blanks r ≡ suc n - suc (blanks r) = omega arith in
        rw (eqb-true b 32 e) (rest n (omega arith) ∙ ap (λ (k : ℕ). low_from 0 (take k (drop (blanks r) r))) k)
    by_byte false e rest n h = ap (λ (k : ℕ). low_from 0 (take k (b ∷ r))) (sym (sub-zero n))

low_behind : (s : List ℕ) → low_from 0 s ≡ low_from 0 (drop (blanks s) s)
low_behind s =
    let n : blanks s + length s - blanks s ≡ length s = omega arith in
    sym (ap (low_from 0) (take_all (blanks s + length s) s (omega arith)))
    ∙ low_trim s (blanks s + length s) (omega arith)
    ∙ rw n (ap (low_from 0) (take_all (length s) (drop (blanks s) s) (omega (arith, length-drop (blanks s) s))))

-- few digits are below the cap, with the point left out between them
few_digits : (head tail : List ℕ) → all_digits head ≡ true → all_digits tail ≡ true → length head + length tail ≤ most_width → from (from 0 head) tail ≤ cap
few_digits head tail p q h =
    let low : (from 0 head + 1) * 10 ^ length tail ≤ 10 ^ length head * 10 ^ length tail = mul-le-mul_right (10 ^ length tail) (omega (arith, from_below head p)) in
    omega (
      arith,
      from_shift tail (from 0 head),
      from_below tail q,
      add-mul (from 0 head) 1 (10 ^ length tail),
      low,
      pow-add 10 (length head) (length tail),
      pow-le-pow_right {n = 10} (omega arith) h,
    )

-- What they spell of a column that is right: a number right in it, or blanks.

some_size : (b : Bool) (n : ℕ) → is_some (size_reading b n) ≡ true → (b ≡ true) × (size_reading b n ≡ Some n)
some_size true n e = (refl, refl)
some_size false n e = absurd (false≢true e)

pub known_blank : (c : Column) (s : List ℕ) {used : Bool} → used ≡ false → is_some (cell_size used c.digits c.decimals s) ≡ true
    → cell_size used c.digits c.decimals s ≡ Some 0
unfolding cell_size
known_blank c s u right = rw u (some_size (all_blank s) 0 (rw u at right)).1

module _ (c : Column) (s : List ℕ) (few : length s ≤ most_width) {used : Bool} (u : used ≡ true) (right : is_some (cell_size used c.digits c.decimals s) ≡ true) where
  abbrev form : Form
  form = column_form c None

  abbrev bare : List ℕ
  bare = drop (blanks s) s

  cell_is : cell_size used c.digits c.decimals s ≡ size_reading (is_plain form bare) (plain_size form bare)
  unfolding cell_size
  cell_is = rw u (sym (number_bare c s))

  plain_is : (is_plain form bare ≡ true) × (size_reading (is_plain form bare) (plain_size form bare) ≡ Some (plain_size form bare))
  plain_is = some_size _ _ (rw cell_is at right)

  -- without decimals
  module _ (none : c.decimals ≡ 0) where
    bare_digits : all_digits bare ≡ true
    unfolding is_plain
    bare_digits = (whole_facts c.digits bare (rw (eq-eqb c.decimals 0 none) at plain_is.0)).1

    whole_is : low_from 0 s ≡ from 0 bare
    whole_is = low_behind s ∙ low_digits bare 0 bare_digits

    pub whole_low : low_from 0 s ≤ cap
    unfolding from all_digits
    whole_low = omega (arith, whole_is, few_digits [] bare refl bare_digits (omega (arith, few, length-drop (blanks s) s)))

    pub whole_known : {n : ℕ} → n ≡ low_from 0 s → cell_size used c.digits c.decimals s ≡ Some n
    unfolding plain_size
    whole_known e =
        let size : capped (from 0 bare) ≡ from 0 bare = capped_small (from 0 bare) (omega (arith, whole_is, whole_low)) in
        cell_is ∙ plain_is.1 ∙ rw (eq-eqb c.decimals 0 none, size, e, whole_is) refl

  -- with its point, by the bytes before it and behind it, as the code has them
  module _ (some : c.decimals ≡ 0 → ⊥) where
    abbrev point : ℕ
    point = point_at c.decimals bare

    abbrev head : List ℕ
    head = take point bare

    abbrev tail : List ℕ
    tail = drop (point + 1) bare

    bare_parts : (c.decimals < length bare) × (all_digits head ≡ true) × (all_digits tail ≡ true)
    unfolding is_plain
    bare_parts =
        let at = every_at _ (rw (ne_eqb c.decimals 0 some) at plain_is.0) in
        (ltb-true _ _ (at 0), (whole_facts c.digits head (at 1)).1, at 3)

    pub point_room : c.decimals + 1 ≤ length s
    point_room = omega (arith, bare_parts.0, length-drop (blanks s) s)

    pointed_low : from (from 0 head) tail ≤ cap
    unfolding point_at
    pointed_low =
        few_digits head tail bare_parts.1 bare_parts.2
        (omega (arith, few, bare_parts.0, length-drop (blanks s) s, length-take-le point bare (omega arith), length-drop (point + 1) bare))

    pointed_is : cell_size used c.digits c.decimals s ≡ Some (from (from 0 head) tail)
    unfolding plain_size
    pointed_is = cell_is ∙ plain_is.1 ∙ rw (ne_eqb c.decimals 0 some, capped_small _ pointed_low) refl

    point_behind : length s - (c.decimals + 1) ≡ blanks s + point
    unfolding point_at
    point_behind = omega (arith, bare_parts.0, length-drop (blanks s) s)

    module _ {front : List ℕ} (before : front ≡ take (length s - (c.decimals + 1)) s) where
      front_is : low_from 0 front ≡ from 0 head
      front_is =
          let n : blanks s + point - blanks s ≡ point = omega arith in
          rw (before, point_behind, low_trim s (blanks s + point) (omega arith), n) (low_digits head 0 bare_parts.1)

      pub front_low : low_from 0 front ≤ cap
      front_low = omega (arith, front_is, from_grows tail (from 0 head), pointed_low)

      module _ {back : List ℕ} (behind : back ≡ drop (length s - (c.decimals + 1)) s) {a : ℕ} (e : a ≡ low_from 0 front) where
        back_is : take (length back - 1) (drop 1 back) ≡ tail
        back_is =
            let n : blanks s + point + 1 ≡ blanks s + (point + 1) = omega arith in
            rw (take_rest back 1, behind, point_behind, drop-drop 1 (blanks s + point) s, n) (sym (drop-drop (point + 1) (blanks s) s))

        rest_is : low_from a (take (length back - 1) (drop 1 back)) ≡ from (from 0 head) tail
        rest_is = rw (e, front_is, back_is) (low_digits tail (from 0 head) bare_parts.2)

        pub rest_low : low_from a (take (length back - 1) (drop 1 back)) ≤ cap
        rest_low = omega (arith, rest_is, pointed_low)

        pub pointed_known : {n : ℕ} → n ≡ low_from a (take (length back - 1) (drop 1 back)) → cell_size used c.digits c.decimals s ≡ Some n
        pointed_known f = pointed_is ∙ rw (f, rest_is) refl

-- what the search goes by there
pub ruleset known_cells = (known_blank, whole_low, whole_known, point_room, front_low, rest_low, pointed_known)
