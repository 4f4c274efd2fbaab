-- The round trips: what is written reads back, and what is read is written again.
use Rattle.std.proofs.lemmas.Grind.{common_steps}
use mathlib.Core.Path.{◌≡◌, refl, sym, ap, ap₂, ◌∙◌}
use mathlib.Core.Bool.{Bool, true, false, not, false≢true}
use mathlib.Core.List.{List, [], ◌∷◌, ◌++◌, append-nil}
use Prim.Native.Nat.{ℕ, zero, suc, ◌+◌, ◌-◌, ◌/◌, ◌^◌, ◌≤◌, ◌<◌}
use native.Mathlib.Omega.{arith}
use native.Mathlib.Numerals.{add-one}
use native.Mathlib.Decide.{ℕ_discrete}
use native.Mathlib.Nat.{pow-le-pow_right, mod-eq_of_lt, div-le_self, div-add-mod'}
use Rattle.std.specs.Prelude.{Option, Some, None}
use lib.ListN.{length, get_or, take, drop, replicate, length-append, length-drop, length-replicate}
use lib.Seq.{take_at, drop-append-add, split_at, drop-length}
use lib.Arith.{digits_div}
use lib.Dec.{eqb, ltb}
use borrow.Author.Tests.{ltb-true, eq-eqb, ne_eqb, eqb-true, eqb-false, not-true}
use Rattle.sequences.specs.Every.{every}
use Rattle.sequences.proofs.Every.{every_at}
use Rattle.digits.specs.declared.Form.{Form}
use Rattle.digits.specs.declared.Figure.{Figure}
use Rattle.digits.specs.Digits.{fixed, tens, decimal, whole_text, plain_text, signed_text, blanks_left, number_text, all_digits, from, spare, cap, capped}
use Rattle.digits.specs.Digits.{is_shaped, is_whole, point_at, is_plain, plain_size, has_minus, is_signed, signed_figure, blanks, all_blank, trimmed_by, trimmed, is_number, figure_of}
use Rattle.std.proofs.lemmas.Bool.{and_parts}
use Rattle.digits.proofs.Read.{compare, capped_small, capped_within, capped_exact, from_grows, shaped_fixed, whole-true, whole_facts}
use Rattle.digits.proofs.Count.{fixed-length, fixed_digits_lem, from_fixed, from_shift, from_below, fixed_from, tens_wide, decimal-length, decimal_spare, decimal_digits, decimal_from, from_decimal}
use Rattle.digits.proofs.Sign.{minus_first, minus_other}
use Rattle.digits.specs.Fits.{Fits}
use Rattle.digits.proofs.Write.{plain_free, plain_pointed, signed_below, signed_above, number-length}

-- ---- before the point

-- a number fits in so many digits, where it is to have so many
abbrev FitsDigits : Option ℕ → ℕ → Type 0
FitsDigits digits n = (most : ℕ) → digits ≡ Some most → n < 10 ^ most

whole_well : (digits : Option ℕ) (n : ℕ) → n ≤ cap → is_whole digits (whole_text digits n) ≡ true
unfolding is_shaped whole_text
whole_well None n small = whole-true None (decimal n) (rw (decimal_spare n (omega arith))) (decimal_digits n)
whole_well (Some digits) n small = grind (arith, common_steps, whole-true, shaped_fixed, fixed-length, fixed_digits_lem)

whole_from : (digits : Option ℕ) (n : ℕ) → n ≤ cap → FitsDigits digits n → from 0 (whole_text digits n) ≡ n
unfolding whole_text
whole_from None n small fits = decimal_from n (omega arith)
whole_from (Some digits) n small fits = from_fixed 0 digits n ∙ rw (mod-eq_of_lt (fits digits refl)) (omega arith)

whole_again : (digits : Option ℕ) (s : List ℕ) → is_whole digits s ≡ true → from 0 s ≤ cap → whole_text digits (from 0 s) ≡ s
unfolding is_shaped whole_text
whole_again None s e small = let t = whole_facts None s e in from_decimal s (not-true (spare s) t.0) t.1 (omega arith)
whole_again (Some digits) s e small =
    let t = whole_facts (Some digits) s e in
    let l : length s ≡ digits = eqb-true (length s) digits t.0 in
    ap (λ (k : ℕ). fixed k (from 0 s)) (sym l) ∙ fixed_from s 0 t.1

-- ---- with the decimals of the form

-- digits, a point and as many digits as the form has decimals
module _ (f : Form) (some : f.decimals ≡ 0 → ⊥) (D F : List ℕ) (long : length F ≡ f.decimals) where
  point_at_lem : point_at f.decimals (D ++ 46 ∷ F) ≡ length D
  unfolding point_at
  point_at_lem = omega (arith, length-append D (46 ∷ F))

  front : take (point_at f.decimals (D ++ 46 ∷ F)) (D ++ 46 ∷ F) ≡ D
  front = rw point_at_lem (take_at D (46 ∷ F) (length D) refl)

  back : drop (point_at f.decimals (D ++ 46 ∷ F) + 1) (D ++ 46 ∷ F) ≡ F
  back = rw point_at_lem (drop-append-add D (46 ∷ F) 1)

  pointed_well : is_whole f.digits D ≡ true → all_digits F ≡ true → is_plain f (D ++ 46 ∷ F) ≡ true
  unfolding is_plain every
  pointed_well d e = grind (arith, common_steps, point_at_lem, front, back)

  pointed_size : plain_size f (D ++ 46 ∷ F) ≡ capped (from (from 0 D) F)
  unfolding plain_size
  pointed_size = rw (ne_eqb f.decimals 0 some, front, back)

module _ (f : Form) (n : ℕ) (small : n ≤ cap) (fits : FitsDigits f.digits (n / 10 ^ f.decimals)) where
  -- what stands before the point, and behind it
  abbrev whole : List ℕ
  whole = whole_text f.digits (n / 10 ^ f.decimals)

  head_small : n / 10 ^ f.decimals ≤ cap
  head_small = omega (arith, div-le_self n (10 ^ f.decimals))

  all_fit : f.decimals ≡ 0 → FitsDigits f.digits n
  all_fit e most h = let one : n / 10 ^ f.decimals ≡ n = rw e (omega arith) in omega (arith, fits most h, one)

  plain_well : is_plain f (plain_text f n) ≡ true
  unfolding is_plain
  plain_well = grind (arith, common_steps, plain_free, whole_well, plain_pointed, pointed_well, fixed-length, head_small, fixed_digits_lem)

  plain_read : plain_size f (plain_text f n) ≡ n
  unfolding plain_size
  plain_read =
      grind (arith, common_steps, plain_free, whole_from, all_fit, capped_small, plain_pointed, pointed_size, fixed-length, head_small, from_fixed, div-add-mod')

module _ (f : Form) (s : List ℕ) (well : is_plain f s ≡ true) (small : plain_size f s < cap) where
  module _ (some : f.decimals ≡ 0 → ⊥) where
    abbrev place : ℕ
    place = point_at f.decimals s

    -- the tests of a number with a point
    tests : every (ltb f.decimals (length s) ∷ is_whole f.digits (take place s) ∷ eqb (get_or s place 0) 46 ∷ all_digits (drop (place + 1) s) ∷ []) ≡ true
    unfolding is_plain
    tests = rw (ne_eqb f.decimals 0 some) at well

    -- there is something before the point
    room : f.decimals < length s
    room = ltb-true f.decimals (length s) (every_at _ tests 0)

    pointed_again : plain_text f (plain_size f s) ≡ s
    unfolding point_at plain_size
    pointed_again =
        let W : List ℕ = take place s in
        let F : List ℕ = drop (place + 1) s in
        let v : ℕ = from (from 0 W) F in
        let size : plain_size f s ≡ capped v = rw (ne_eqb f.decimals 0 some) in
        let exact : capped v ≡ v = capped_exact v (omega (arith, size)) in
        let long : length F ≡ f.decimals = length-drop (place + 1) s ∙ omega (arith, room) in
        let digits : all_digits F ≡ true = every_at _ tests 3 in
        let head : v / 10 ^ f.decimals ≡ from 0 W =
        ap₂ ◌/◌ (from_shift F (from 0 W)) (ap (λ (k : ℕ). 10 ^ k) (sym long)) ∙ digits_div (from 0 W) (from_below F digits)
        in
        let front : whole_text f.digits (v / 10 ^ f.decimals) ≡ W =
        ap (whole_text f.digits) head ∙ whole_again f.digits W (every_at _ tests 1) (omega (arith, size, exact, from_grows F (from 0 W)))
        in
        let back : fixed f.decimals v ≡ F = ap (λ (k : ℕ). fixed k v) (sym long) ∙ fixed_from F (from 0 W) digits in
        let point : get_or s place 0 ≡ 46 = eqb-true (get_or s place 0) 46 (every_at _ tests 2) in
        ap (plain_text f) (size ∙ exact)
        ∙ plain_pointed f v some
        ∙ ap₂ (λ (a b : List ℕ). a ++ 46 ∷ b) front back
        ∙ sym (split_at s place 0 (omega (arith, room)) ∙ ap₂ (λ (b i : ℕ). take place s ++ b ∷ drop i s) point (sym (add-one place)))

  plain_again : plain_text f (plain_size f s) ≡ s
  unfolding is_plain plain_size
  plain_again =
      elim (ℕ_discrete f.decimals 0) [
        | yes e ↦
            let whole : is_whole f.digits s ≡ true = rw (eq-eqb f.decimals 0 e) at well in
            let size : plain_size f s ≡ capped (from 0 s) = rw (eq-eqb f.decimals 0 e) in
            let exact : capped (from 0 s) ≡ from 0 s = capped_exact (from 0 s) (omega (arith, size)) in
            ap (plain_text f) (size ∙ exact) ∙ plain_free f (from 0 s) e ∙ whole_again f.digits s whole (omega (arith, size, exact))
        | no h ↦ pointed_again h
      ]

-- ---- with its sign

-- a digit stands first, or the point, or nothing: no "-" and no blank
abbrev Unmarked : ℕ → Type 0
Unmarked b = (b ≡ 45 → ⊥) × (b ≡ 32 → ⊥)

whole_first : (digits : Option ℕ) (n : ℕ) → Unmarked (get_or (whole_text digits n) 0 0)
unfolding whole_text decimal fixed
whole_first None n = (λ e. omega arith, λ e. omega arith)
whole_first (Some zero) n = (λ e. omega arith, λ e. omega arith)
whole_first (Some (suc digits)) n = (λ e. omega arith, λ e. omega arith)

pointed_first : (w r : List ℕ) → Unmarked (get_or w 0 0) → Unmarked (get_or (w ++ 46 ∷ r) 0 0)
pointed_first [] r u = (λ e. omega arith, λ e. omega arith)
pointed_first (b ∷ w) r u = u

plain_first : (f : Form) (n : ℕ) → Unmarked (get_or (plain_text f n) 0 0)
plain_first f n = grind (arith, common_steps, plain_free, whole_first, plain_pointed, pointed_first)

-- what it starts with is no blank
signed_first : (f : Form) (z : Figure) → get_or (signed_text f z) 0 0 ≡ 32 → ⊥
signed_first f z e = case z.negative refl
  where
    case : (b : Bool) → z.negative ≡ b → ⊥
    case true n = omega (arith, e, ap (λ (l : List ℕ). get_or l 0 0) (signed_below f z n))
    case false n = (plain_first f z.size).1 (sym (ap (λ (l : List ℕ). get_or l 0 0) (signed_above f z n)) ∙ e)

module _ (f : Form) (z : Figure) (fits : Fits f z) where
  abbrev text : List ℕ
  text = plain_text f z.size

  well : is_plain f text ≡ true
  well = plain_well f z.size fits.within fits.digits

  size : plain_size f text ≡ z.size
  size = plain_read f z.size fits.within fits.digits

  signed_well : (b : Bool) → z.negative ≡ b → is_signed f (signed_text f z) ≡ true
  unfolding is_signed every
  signed_well true n = grind (arith, common_steps, signed_below, minus_first, well, size)
  signed_well false n = rw (signed_above f z n, minus_other f text (plain_first f z.size).0) well

  signed_read : (b : Bool) → z.negative ≡ b → signed_figure f (signed_text f z) ≡ z
  unfolding signed_figure
  signed_read true n = grind (arith, common_steps, signed_below, minus_first, size)
  signed_read false n = grind (arith, common_steps, signed_above, minus_other, plain_first, size)

-- a "-" and what stands behind it
minus-cons : (s : List ℕ) → get_or s 0 0 ≡ 45 → 45 ∷ drop 1 s ≡ s
minus-cons [] e = absurd (omega arith)
minus-cons (b ∷ r) e = ap (λ (x : ℕ). x ∷ r) (sym e)

-- a "-" stands first only where the form has a sign
minus_facts : (f : Form) (s : List ℕ) → has_minus f s ≡ true → (f.signed ≡ true) × (get_or s 0 0 ≡ 45)
unfolding has_minus
minus_facts f s e = let t = and_parts f.signed (eqb (get_or s 0 0) 45) e in (t.0, eqb-true (get_or s 0 0) 45 t.1)

module _ (f : Form) (s : List ℕ) (well : is_signed f s ≡ true) where
  signed_again : (b : Bool) → has_minus f s ≡ b → (signed_figure f s).size < cap → signed_text f (signed_figure f s) ≡ s
  unfolding is_signed signed_figure
  signed_again true m small =
      let t : every (is_plain f (drop 1 s) ∷ not (eqb (plain_size f (drop 1 s)) 0) ∷ []) ≡ true = rw m at well in
      let l : plain_size f (drop 1 s) < cap = rw m at small in
      rw m
      (signed_below f (record { negative = true; size = plain_size f (drop 1 s) }) refl
      ∙ ap (λ (r : List ℕ). 45 ∷ r) (plain_again f (drop 1 s) (every_at _ t 0) l)
      ∙ minus-cons s (minus_facts f s m).1)
  signed_again false m small = grind (arith, common_steps, well, signed_above, plain_again)

  -- a "-" that is well written
  signed_sign : (b : Bool) → has_minus f s ≡ b → (signed_figure f s).negative ≡ true → (f.signed ≡ true) × (0 < (signed_figure f s).size)
  unfolding is_signed signed_figure
  signed_sign true m n =
      let t : every (is_plain f (drop 1 s) ∷ not (eqb (plain_size f (drop 1 s)) 0) ∷ []) ≡ true = rw m at well in
      let some = eqb-false (plain_size f (drop 1 s)) 0 (not-true _ (every_at _ t 1)) in
      ((minus_facts f s m).0, rw m (omega arith))
  signed_sign false m n = let e : false ≡ true = rw m at n in absurd (false≢true e)

signed_capped : (f : Form) (s : List ℕ) (b : Bool) → has_minus f s ≡ b → (signed_figure f s).size ≤ cap
unfolding signed_figure plain_size
signed_capped f s true m = rw m (capped_within _)
signed_capped f s false m = rw m (capped_within _)

-- ---- right in its field

-- blanks, and what stands behind them
blanks_before : (k : ℕ) (t : List ℕ) → (get_or t 0 0 ≡ 32 → ⊥) → blanks (replicate k 32 ++ t) ≡ k
unfolding blanks
blanks_before zero [] h = refl
blanks_before zero (b ∷ r) h = rw (ne_eqb b 32 h)
blanks_before (suc k) t h = ap suc (blanks_before k t h)

blanks_split : (s : List ℕ) → replicate (blanks s) 32 ++ drop (blanks s) s ≡ s
unfolding blanks
blanks_split [] = refl
blanks_split (b ∷ r) =
    elim (ℕ_discrete b 32) [
      | yes e ↦ rw (eq-eqb b 32 e) (ap₂ (λ (x : ℕ) (l : List ℕ). x ∷ l) (sym e) (blanks_split r))
      | no h ↦ rw (ne_eqb b 32 h)
    ]

blanks_inside : (s : List ℕ) → blanks s ≤ length s
blanks_inside s =
    let parts = length-append (replicate (blanks s) 32) (drop (blanks s) s) in
    omega (arith, ap length (blanks_split s), parts, length-replicate {A = ℕ} (blanks s) 32)

trimmed_text : (f : Form) (z : Figure) → trimmed f (number_text f z) ≡ signed_text f z
unfolding trimmed trimmed_by number_text blanks_left
trimmed_text f z = grind (arith, common_steps, blanks_before, signed_first)

-- what is written reads back
pub number_read : (f : Form) (z : Figure) → Fits f z → is_number f (number_text f z) ≡ true
unfolding is_number
number_read f z h = rw (trimmed_text f z) (signed_well f z h z.negative refl)

pub figure_read_lem : (f : Form) (z : Figure) → Fits f z → figure_of f (number_text f z) ≡ z
unfolding figure_of
figure_read_lem f z h = rw (trimmed_text f z) (signed_read f z h z.negative refl)

pub number_width : (f : Form) (z : Figure) → Fits f z → (width : ℕ) → f.width ≡ Some width → length (number_text f z) ≡ width
unfolding blanks_left
number_width f z h width some = grind (arith, common_steps, number-length)

-- what is read is written again
blanks_again : (width : Option ℕ) (s t : List ℕ) → ((w : ℕ) → width ≡ Some w → length s ≡ w) → t ≡ trimmed_by width s
    → replicate (blanks_left width (length t)) 32 ++ t ≡ s
unfolding trimmed_by blanks_left
blanks_again None s t long e = e
blanks_again (Some width) s t long e =
    let k : width - length (drop (blanks s) s) ≡ blanks s = omega (arith, long width refl, length-drop (blanks s) s, blanks_inside s) in
    rw (e, k) (blanks_split s)

pub number_again : (f : Form) (s : List ℕ) → is_number f s ≡ true → (figure_of f s).size < cap
    → ((width : ℕ) → f.width ≡ Some width → length s ≡ width) → number_text f (figure_of f s) ≡ s
unfolding is_number figure_of trimmed number_text
number_again f s well small long = grind (arith, common_steps, blanks_again, signed_again, well)

-- a well-written "-" is only where the form has a sign, and above zero
pub figure_sign : (f : Form) (s : List ℕ) → is_number f s ≡ true → (figure_of f s).negative ≡ true → (f.signed ≡ true) × (0 < (figure_of f s).size)
unfolding is_number figure_of
figure_sign f s well n = signed_sign f (trimmed f s) well (has_minus f (trimmed f s)) refl n

pub figure_capped : (f : Form) (s : List ℕ) → (figure_of f s).size ≤ cap
unfolding figure_of
figure_capped f s = signed_capped f (trimmed f s) (has_minus f (trimmed f s)) refl

-- ---- how long a number is

pub decimal_short : (d n : ℕ) → n < 10 ^ suc d → d ≤ 18 → length (decimal n) ≤ suc d
decimal_short d n h l =
    let top : suc d ≤ 19 = omega arith in
    let most : 10 ^ suc d ≤ 10 ^ 19 = pow-le-pow_right {n = 10} (omega arith) top in
    let w = tens_wide n (omega arith) in
    compare (tens n) d (λ j. omega (arith, decimal-length n))
    (λ j. compare n 0
    (λ z. absurd (omega (arith, w.none (omega arith))))
    (λ z. let p : 10 ^ suc d ≤ 10 ^ tens n = pow-le-pow_right {n = 10} (omega arith) j in absurd (omega (arith, w.lower z))))

-- ---- all blanks

pub blank_all : (k : ℕ) → all_blank (replicate k 32) ≡ true
unfolding all_blank
blank_all k =
    let n : blanks (replicate k 32) ≡ k = ap blanks (sym (append-nil (replicate k 32))) ∙ blanks_before k [] (λ e. omega arith) in
    eq-eqb (blanks (replicate k 32)) (length (replicate k 32)) (n ∙ sym (length-replicate k 32))

pub blank_is : (s : List ℕ) → all_blank s ≡ true → s ≡ replicate (length s) 32
unfolding all_blank
blank_is s e =
    let n : blanks s ≡ length s = eqb-true (blanks s) (length s) e in
    sym (blanks_split s)
    ∙ ap (λ (k : ℕ). replicate k 32 ++ drop k s) n
    ∙ ap (λ (l : List ℕ). replicate (length s) 32 ++ l) (drop-length s)
    ∙ append-nil (replicate (length s) 32)
