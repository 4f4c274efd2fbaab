-- A number that ends a field: its parts are written from the right.
use Rattle.std.proofs.Common.{Option, Some, ◌≡◌, refl, ap, ◌∙◌, ℕ, ◌+◌, ◌-◌, ◌/◌, ◌^◌, ◌≤◌, true, List, ◌∷◌, ◌++◌, length, take, drop, set, replicate, sym, length-take, length-drop, length-set, arith}
use Rattle.std.proofs.lemmas.Grind.{common_steps}
use borrow.Rule.Slice.PartMut.{put_mid}
use Rattle.digits.specs.declared.Form.{Form}
use Rattle.digits.specs.declared.Figure.{Figure}
use Rattle.digits.specs.Digits.{fixed, whole_text, plain_text, signed_text, number_text}
use Rattle.digits.specs.Written.{put, Written}
use Rattle.digits.proofs.Put.{put-length, put_front, put-before, written_part}
use Rattle.digits.proofs.Count.{fixed-length, decimal-length}
use Rattle.digits.proofs.Write.{plain_free, free_put, plain_pointed, plain-length, signed_below, signed_above, signed-length, number-length, blanks_put, blanks-put}

-- digits before the point: so many
module _ (d : List ℕ) (size n : ℕ) {digits : Option ℕ} (are : digits ≡ Some size) (room : length (whole_text digits n) ≤ length d) where
  fixed_room : size ≤ length d
  unfolding whole_text
  fixed_room = omega (arith, ap (λ (o : Option ℕ). length (whole_text o n)) are, fixed-length size n)

  pub fixed_put : {xs : List ℕ} → xs ≡ fixed (length (take (length d - (length d - size)) (drop (length d - size) d))) n
      → Written d (length d - size) (whole_text digits n) (put_mid (length d - size) (length d - (length d - size)) d xs) (length d)
  unfolding whole_text
  fixed_put {xs} bytes = grind (arith, common_steps, fixed_room, fixed-length, written_part)

-- with decimals: they and the point are written first
pub point_long : (f : Form) (n : ℕ) → (f.decimals ≡ 0 → ⊥)
    → length (plain_text f n) ≡ length (whole_text f.digits (n / 10 ^ f.decimals)) + (f.decimals + 1)
point_long f n some = plain-length f n some (10 ^ f.decimals) refl

-- what ends the first bytes of d, where those behind them stay
front_written : (k : ℕ) (d : List ℕ) → k ≤ length d → {d' xs : List ℕ} {r : ℕ} → Written (take k d) r xs d' (length (take k d))
    → Written d r xs (d' ++ drop k d) k
unfolding put
front_written k d h {d'} {xs} {r} w =
    let long : length (take k d) ≡ k = grind (arith, common_steps) in
    let next : k ≡ r + length xs = sym long ∙ w.next in
    record { bytes = grind (arith, common_steps, long, next, w.bytes); next = next }

module _ (f : Form) (n : ℕ) (d : List ℕ) (some : f.decimals ≡ 0 → ⊥) (room : length (plain_text f n) ≤ length d) where
  abbrev point : ℕ
  point = length d - (f.decimals + 1)

  abbrev whole : ℕ
  whole = n / 10 ^ f.decimals

  point_room : f.decimals + 1 ≤ length d
  point_room = omega (arith, point_long f n some)

  -- the place of the decimals, as the code lends it
  abbrev part : List ℕ
  part = take (length d - (point + 1)) (drop (point + 1) d)

  module _ {xs : List ℕ} (bytes : xs ≡ fixed (length part) n) {left : ℕ} (leaves : left ≡ n / 10 ^ length part) where
    part_long : length part ≡ f.decimals
    part_long = omega (arith, point_room, length-take (length d - (point + 1)) (drop (point + 1) d), length-drop (point + 1) d)

    pub whole_left : left ≡ whole
    whole_left = leaves ∙ ap (λ (k : ℕ). n / 10 ^ k) part_long

    abbrev tail : List ℕ
    tail = put_mid (point + 1) (length d - (point + 1)) d xs

    tail_is : tail ≡ put d (point + 1) (fixed f.decimals n)
    tail_is = grind (arith, common_steps, point_room, fixed-length, written_part, part_long)

    pub tail_long : length tail ≡ length d
    tail_long = ap length tail_is ∙ put-length d (point + 1) (fixed f.decimals n) (omega (arith, point_room, fixed-length f.decimals n))

    pointed_is : set tail point 46 ≡ put d point (46 ∷ fixed f.decimals n)
    pointed_is = grind (arith, common_steps, tail_is, put-before, point_room, fixed-length)

    -- what is written before the point
    pub plain_written : {d' : List ℕ} {r : ℕ} → Written (take point (set tail point 46)) r (whole_text f.digits left) d' (length (take point (set tail point 46)))
        → Written d r (plain_text f n) (d' ++ drop point (set tail point 46)) (length d)
    plain_written {d'} {r} w =
        let front = front_written point _ (omega (arith, point_room, tail_long, length-set tail point 46)) w in
        grind (arith, common_steps, front, whole_left, pointed_is, put_front, point_room, fixed-length, plain_pointed, point_long)

-- the sign before it
module _ (f : Form) (z : Figure) (d : List ℕ) (room : length (signed_text f z) ≤ length d) {d' : List ℕ} {r : ℕ} where
  pub sign_room : z.negative ≡ true → Written d r (plain_text f z.size) d' (length d) → (1 ≤ r) × (length d' ≡ length d)
  sign_room e w = grind (arith, common_steps, signed_below, put-length)

  pub sign_put : z.negative ≡ true → Written d r (plain_text f z.size) d' (length d)
      → set d' (r - 1) 45 ≡ put d (length d - length (signed_text f z)) (signed_text f z)
  sign_put e w = grind (arith, common_steps, signed_below, sign_room, put-before)

-- in a field of blanks
pub right_put : (f : Form) (z : Figure) {d d' : List ℕ} {w : ℕ} → d ≡ replicate w 32 → w ≡ length (number_text f z)
    → d' ≡ put d (length d - length (signed_text f z)) (signed_text f z) → d' ≡ number_text f z
unfolding number_text
right_put f z {d} {d'} {w} blank long e = grind (arith, common_steps, number-length, blanks_put, blanks-put)

-- what the search is to know of a part: its size, and what writing it leaves
pub ruleset whole_put = (fixed-length, decimal-length, fixed_put)

pub ruleset plain_put = (common_steps, plain_free, free_put, fixed-length, point_long)

pub ruleset signed_put = (signed-length, signed_above, sign_room, sign_put)
