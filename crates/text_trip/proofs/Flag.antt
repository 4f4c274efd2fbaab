-- What the columns of a line have by its flag, and the flag's own column: one digit, in every line.
use Rattle.std.proofs.lemmas.Grind.{common_steps}
use mathlib.Core.Path.{◌≡◌, refl, ap}
use mathlib.Core.Bool.{Bool, true, false, cond, false≢true, and-eq-true_iff}
use mathlib.Core.List.{[], ◌∷◌}
use Prim.Native.Nat.{ℕ, ◌+◌, ◌-◌, ◌*◌, ◌≤◌, ◌<◌}
use native.Mathlib.Nat.{div-one, mod-eq_of_lt}
use native.Mathlib.Omega.{arith}
use Rattle.std.specs.Prelude.{Some}
use lib.Dec.{eqb}
use lib.ListN.{get_or, drop}
use borrow.Author.Tests.{le-leb}
use Rattle.sequences.specs.Every.{inside}
use Rattle.sequences.proofs.Every.{every_at, inside_facts}
use Rattle.flags.specs.Table.{FlagTable}
use Rattle.digits.specs.declared.Form.{Form}
use Rattle.digits.specs.Digits.{plain, fixed, whole_text, plain_text, signed_text, blanks_left, number_text, cap, capped, from, blanks, is_digit, all_digits, is_shaped, is_whole, is_plain, plain_size}
use Rattle.digits.specs.Digits.{has_minus, is_signed, signed_figure, trimmed_by, trimmed, is_number, figure_of}
use Rattle.digits.specs.Fits.{Fits}
use Rattle.text_rules.specs.declared.Use.{Use}
use Rattle.text_rules.specs.declared.Use.TheVariants.{Always, ByFlag, Text}
use Rattle.text_rules.specs.declared.Column.{Column}
use Rattle.text_rules.specs.Tables.{TextForm, column_at}
use Rattle.text_rules.specs.Columns.{is_text, holds_text, Content, words_cell, number_cell, blank_cell, content_by, number_form}
use Rattle.text_rules.proofs.Well.{WellColumn, WellForm, WellFlag, column_well_lem, flag_facts}

-- what a column has tells whether it holds text
abbrev pub Holds : Content → Bool → Type 0
Holds words_cell b = b ≡ true
Holds number_cell b = b ≡ false
Holds blank_cell b = b ≡ false

pub content_holds : (flags : FlagTable) (flag : ℕ) (u : Use) → Holds (content_by flags flag u) (is_text u)
unfolding content_by is_text
content_holds flags flag Always = refl
content_holds flags flag (ByFlag column) = grind (arith, common_steps)
content_holds flags flag Text = refl

-- Columns of one digit.

abbrev pub one_digit : Form
one_digit = record { digits = Some 1; decimals = 0; signed = false; width = Some 1 }

one_digit_lem : (c : Column) → WellColumn c → c.width ≡ 1 → c.digits ≡ Some 1 → number_form c ≡ one_digit
unfolding number_form
one_digit_lem c w p q = grind (arith, common_steps)

-- the byte that is written for a number that fits
pub digit_written : (n : ℕ) → Fits one_digit (plain n) → get_or (number_text one_digit (plain n)) 0 0 - 48 ≡ n
unfolding number_text blanks_left signed_text plain_text whole_text fixed
digit_written n f =
    let low : n < 10 = rw (div-one n) at (f.digits 1 refl) in
    rw (div-one n, mod-eq_of_lt {n = n} {m = 10} low) (omega arith)

-- the number that a byte says
digit_size : (b : ℕ) → b ≤ 57 → capped (from 0 (b ∷ [])) ≡ b - 48
unfolding from capped
digit_size b h = let e : 0 * 10 + (b - 48) ≡ b - 48 = omega arith in rw (e, le-leb (b - 48) cap (omega arith))

-- by whether it is a blank
digit_cases : (b : ℕ) (blank : Bool) → is_signed one_digit (drop (cond blank 1 0) (b ∷ [])) ≡ true
    → (signed_figure one_digit (drop (cond blank 1 0) (b ∷ []))).size ≡ b - 48
unfolding is_signed signed_figure has_minus is_plain plain_size is_whole is_shaped all_digits is_digit
digit_cases b true e = absurd (false≢true (every_at _ e 0))
digit_cases b false e =
    digit_size b (inside_facts 48 57 b ((and-eq-true_iff (inside 48 57 b) true).0 (every_at _ e 1)).0).1

pub digit_figure : (b : ℕ) → is_number one_digit (b ∷ []) ≡ true → (figure_of one_digit (b ∷ [])).size ≡ b - 48
unfolding is_number figure_of trimmed trimmed_by blanks
digit_figure b e = digit_cases b (eqb b 32) e

-- The flag's column of a well-made form.
module _ (t : TextForm) (well : WellForm t) where
  pub flag_well_lem : WellFlag t.columns t.flag_at
  flag_well_lem = flag_facts t.columns t.flag_at well.flag

  pub flag_form : number_form (column_at t.columns t.flag_at) ≡ one_digit
  flag_form = one_digit_lem _ (column_well_lem t.columns well.columns t.flag_at flag_well_lem.there) flag_well_lem.width flag_well_lem.digits

  -- it has a number whatever the flag
  pub flag_content : (flag : ℕ) → content_by t.flags flag (column_at t.columns t.flag_at).used ≡ number_cell
  unfolding content_by
  flag_content flag = ap (content_by t.flags flag) flag_well_lem.always

  pub flag_number : holds_text t.columns t.flag_at ≡ false
  unfolding holds_text is_text
  flag_number = ap is_text flag_well_lem.always
