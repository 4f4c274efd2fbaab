-- Number fields of the list text: how a number is written, and how one that is written is read.
use Rattle.std.specs.Prelude.{ℕ, zero, suc, ◌+◌, ◌-◌, ◌*◌, ◌/◌, ◌%◌, ◌^◌, Bool, true, false, cond, not, ◌&&◌, List, [], ◌∷◌, ◌++◌, leb, ltb, eqb, length, get_or, take, drop, replicate, Option, Some, None, option_map, option_and_then}
use Rattle.sequences.specs.Every.{every, inside}
use Rattle.digits.specs.Bytes.{zero_byte}
use Rattle.digits.specs.declared.Form.{Form}
use Rattle.digits.specs.declared.Figure.{Figure}

-- a number that is not below zero
abbrev pub plain : ℕ → Figure
plain n = record { negative = false; size = n }

-- ---- writing

-- the last k digits of n
unfoldable pub fixed : ℕ → ℕ → List ℕ
fixed zero n = []
fixed (suc k) n = (zero_byte + n / 10 ^ k % 10) ∷ fixed k n

-- how many digits n has after its first, where they are at most so many
unfoldable pub tens_within : ℕ → ℕ → ℕ
tens_within zero n = 0
tens_within (suc most) n = cond (ltb n 10) 0 (suc (tens_within most (n / 10)))

unfoldable pub tens : ℕ → ℕ
tens n = tens_within 19 n

-- n, below 10 ^ 20, with no spare zero
unfoldable pub decimal : ℕ → List ℕ
decimal n = fixed (suc (tens n)) n

-- the digits before the point: so many, or as many as n has
unfoldable pub whole_text : Option ℕ → ℕ → List ℕ
whole_text None n = decimal n
whole_text (Some digits) n = fixed digits n

-- with the decimals of the form, n counts 10 ^ decimals-ths
unfoldable pub plain_text : Form → ℕ → List ℕ
plain_text f n =
    cond (eqb f.decimals 0) (whole_text f.digits n)
    (whole_text f.digits (n / 10 ^ f.decimals) ++ 46 ∷ fixed f.decimals n)

-- with its sign
unfoldable pub signed_text : Form → Figure → List ℕ
signed_text f z = cond z.negative (45 ∷ plain_text f z.size) (plain_text f z.size)

-- how many blanks stand before so many characters in a field of that width
unfoldable pub blanks_left : Option ℕ → ℕ → ℕ
blanks_left None n = 0
blanks_left (Some width) n = width - n

-- right in the blanks of the form's width
unfoldable pub number_text : Form → Figure → List ℕ
number_text f z = replicate (blanks_left f.width (length (signed_text f z))) 32 ++ signed_text f z

-- ---- reading

-- the byte is one of the digits 0 to 9
unfoldable pub is_digit : ℕ → Bool
is_digit b = inside zero_byte (zero_byte + 9) b

unfoldable pub all_digits : List ℕ → Bool
all_digits [] = true
all_digits (b ∷ r) = is_digit b && all_digits r

-- the number that digits spell after the number a
unfoldable pub from : ℕ → List ℕ → ℕ
from a [] = a
from a (b ∷ r) = from (a * 10 + (b - zero_byte)) r

-- no digit at all, or a zero before another digit
unfoldable pub spare : List ℕ → Bool
spare [] = true
spare (b ∷ []) = false
spare (b ∷ c ∷ r) = eqb b zero_byte

-- above every range: a number that is more is read as this, and is past its range
abbrev pub cap : ℕ
cap = 1_000_000_000_000_000_000

unfoldable pub capped : ℕ → ℕ
capped n = cond (leb n cap) n cap

-- so many characters, or some with no spare zero
unfoldable pub is_shaped : Option ℕ → List ℕ → Bool
is_shaped None s = not (spare s)
is_shaped (Some digits) s = eqb (length s) digits

-- so many digits, or digits with no spare zero
unfoldable pub is_whole : Option ℕ → List ℕ → Bool
is_whole digits s = every (is_shaped digits s ∷ all_digits s ∷ [])

-- where the point stands, with so many decimals behind it
unfoldable pub point_at : ℕ → List ℕ → ℕ
point_at decimals s = length s - (decimals + 1)

-- a number with the decimals of the form, which has room for its point
unfoldable pub is_plain : Form → List ℕ → Bool
is_plain f s =
    cond (eqb f.decimals 0) (is_whole f.digits s)
    (every
    (ltb f.decimals (length s)
    ∷ is_whole f.digits (take (point_at f.decimals s) s)
    ∷ eqb (get_or s (point_at f.decimals s) 0) 46
    ∷ all_digits (drop (point_at f.decimals s + 1) s)
    ∷ []))

unfoldable pub plain_size : Form → List ℕ → ℕ
plain_size f s =
    capped
    (cond (eqb f.decimals 0) (from 0 s)
    (from (from 0 (take (point_at f.decimals s) s)) (drop (point_at f.decimals s + 1) s)))

-- a "-" stands first, where the form allows one
unfoldable pub has_minus : Form → List ℕ → Bool
has_minus f s = f.signed && eqb (get_or s 0 0) 45

-- with its sign; "-" and a zero is no number
unfoldable pub is_signed : Form → List ℕ → Bool
is_signed f s =
    cond (has_minus f s) (every (is_plain f (drop 1 s) ∷ not (eqb (plain_size f (drop 1 s)) 0) ∷ [])) (is_plain f s)

unfoldable pub signed_figure : Form → List ℕ → Figure
signed_figure f s =
    cond (has_minus f s) (record { negative = true; size = plain_size f (drop 1 s) }) (plain (plain_size f s))

-- how many blanks stand first
unfoldable pub blanks : List ℕ → ℕ
blanks [] = 0
blanks (b ∷ r) = cond (eqb b 32) (suc (blanks r)) 0

-- nothing but blanks
unfoldable pub all_blank : List ℕ → Bool
all_blank s = eqb (blanks s) (length s)

-- a form with a width has blanks at the left
unfoldable pub trimmed_by : Option ℕ → List ℕ → List ℕ
trimmed_by None s = s
trimmed_by (Some width) s = drop (blanks s) s

unfoldable pub trimmed : Form → List ℕ → List ℕ
trimmed f s = trimmed_by f.width s

-- the field is a well-written number of the form, and which
unfoldable pub is_number : Form → List ℕ → Bool
is_number f s = is_signed f (trimmed f s)

unfoldable pub figure_of : Form → List ℕ → Figure
figure_of f s = signed_figure f (trimmed f s)

-- ---- what the code answers

abbrev pub size_reading : Bool → ℕ → Option ℕ
size_reading well n = cond well (Some n) None

abbrev pub reading : Bool → Figure → Option Figure
reading well z = cond well (Some z) None

-- the digits of s, read on after the number a
unfoldable pub read_on : ℕ → List ℕ → Option ℕ
read_on a s = size_reading (all_digits s) (capped (from a s))

-- a size behind a "-", and with no sign
unfoldable pub minus_figure : ℕ → Option Figure
minus_figure n = cond (eqb n 0) None (Some (record { negative = true; size = n }))

abbrev pub below_zero : Option ℕ → Option Figure
below_zero size = option_and_then minus_figure size

abbrev pub above_zero : Option ℕ → Option Figure
above_zero size = option_map plain size
