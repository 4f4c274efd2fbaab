-- Names: where the one of a component line stands, and the names of a list.
use Prim.Native.Nat.{ℕ, zero, suc, ◌+◌, ◌-◌, ◌*◌, ◌/◌, ◌≤◌, ◌<◌}
use mathlib.Core.Path.{◌≡◌, refl, ap}
use mathlib.Core.Bool.{Bool, true, not, and-eq-true_iff}
use mathlib.Core.List.{List, [], ◌∷◌}
use native.Mathlib.Nat.{add-zero, suc-mul, le-div_iff_mul-le, div-lt_iff_lt-mul}
use native.Mathlib.Numerals.{add-one}
use native.Mathlib.Omega.{arith}
use lib.ListN.{length, take, drop}
use borrow.Author.Tests.{le-leb, lt-leb}
use Rattle.std.specs.Prelude.{None}
use Rattle.sequences.specs.Below.{sum_below, below}
use Rattle.sequences.specs.Stretch.{stretch_of}
use Rattle.sequences.proofs.Below.{first_same, first_end, first_none_below}
use Rattle.lines.specs.Lines.{name_byte, all_bytes}
use Rattle.text_rules.specs.declared.Column.{Column}
use Rattle.text_rules.specs.Tables.{column_at}
use Rattle.text_rules.specs.Columns.{column_width, column_start, line_width, line_pitch}
use Rattle.list_rules.specs.declared.TextPart.{TextPart}
use Rattle.list_rules.specs.Shanghai.{shanghai_columns, name_column, amount_column, name_width}
use Rattle.list_rules.specs.Reading.{name_place}
use Rattle.text_rows.specs.Words.{words_fault}
use Rattle.list_rules.specs.Writing.{name_at, name_fault}

pub pitch_some : (cs : List Column) {pitch : ℕ} → pitch ≡ line_pitch cs → 0 < pitch
unfolding line_pitch
pitch_some cs e = omega (arith, e)

-- a column's start is within the line and its end
pub width_within : (cs : List Column) {start : ℕ} → start ≤ line_width cs → start ≤ line_pitch cs
unfolding line_pitch
width_within cs h = omega (arith, h)

-- the table has its last column, and so those before it
pub last_there : amount_column < length shanghai_columns
unfolding shanghai_columns
last_there = omega arith

-- the name stands within the line
pub name_within : column_start shanghai_columns name_column + name_width ≤ line_pitch shanghai_columns
unfolding column_start line_width line_pitch column_width column_at shanghai_columns sum_below
name_within = omega arith

module _ (text : List ℕ) (first j pitch : ℕ) (e : pitch ≡ line_pitch shanghai_columns) where
  pub place_none : length text < first + j * pitch + pitch → ◌≡◌ {A = TextPart} (record { place = 0; length = 0 }) (name_place text first j)
  unfolding name_place
  place_none h = rw (← e, lt-leb (first + j * pitch + pitch) (length text) h)

  pub place_is : first + j * pitch + pitch ≤ length text → {a : ℕ} → a ≡ column_start shanghai_columns name_column
      → ◌≡◌ {A = TextPart} (record { place = first + j * pitch + a; length = name_width }) (name_place text first j)
  unfolding name_place
  place_is h f = rw (← e, le-leb (first + j * pitch + pitch) (length text) h, f)

add-mul-one : (j p : ℕ) → (j + 1) * p ≡ j * p + p
add-mul-one j p = rw add-one (suc-mul j p)

-- whether the text has the line, as the code tests it
module _ (text first j pitch : ℕ) (some : 0 < pitch) where
  pub line_none : (text - first) / pitch ≤ j → text < first + j * pitch + pitch
  line_none q = omega (arith, (div-lt_iff_lt-mul {k = pitch} {x = text - first} {y = j + 1} some).0 (omega arith), add-mul-one j pitch)

  pub line_some : j < (text - first) / pitch → first + j * pitch + pitch ≤ text
  line_some q = omega (arith, (le-div_iff_mul-le {k = pitch} {x = j + 1} {y = text - first} some).0 (omega arith), add-mul-one j pitch)

-- what the search goes by where a name is looked for
pub ruleset place_cases = (pitch_some, width_within, line_none, line_some, place_none, place_is, last_there, name_within)

-- The names of a list.

-- where every byte may stand in a name, no name is at fault

all_drop : (p : ℕ → Bool) (n : ℕ) (l : List ℕ) → all_bytes p l ≡ true → all_bytes p (drop n l) ≡ true
unfolding all_bytes
all_drop p zero l e = e
all_drop p (suc n) [] e = e
all_drop p (suc n) (b ∷ r) e = all_drop p n r ((and-eq-true_iff (p b) (all_bytes p r)).0 e).1

all_take : (p : ℕ → Bool) (n : ℕ) (l : List ℕ) → all_bytes p l ≡ true → all_bytes p (take n l) ≡ true
unfolding all_bytes
all_take p zero l e = refl
all_take p (suc n) [] e = refl
all_take p (suc n) (b ∷ r) e =
    let both = (and-eq-true_iff (p b) (all_bytes p r)).0 e in
    rw both.0 (all_take p n r both.1)

pub names_fine : (names : List ℕ) (count : ℕ) → all_bytes name_byte names ≡ true → None ≡ below count (name_fault names count)
unfolding name_fault name_at stretch_of
names_fine names count e =
    first_none_below _ count
    (first_end _ count (λ j h. ap not (all_take name_byte name_width (drop (j * name_width) names) (all_drop name_byte (j * name_width) names e))))

-- names are words, one behind the other
pub names_words : (names : List ℕ) (count : ℕ) → words_fault names name_width 0 name_width count ≡ name_fault names count
unfolding words_fault name_fault name_at stretch_of
names_words names count = first_same _ _ count (λ j h. ap (λ (i : ℕ). not (all_bytes name_byte (take name_width (drop i names)))) (add-zero (j * name_width)))
