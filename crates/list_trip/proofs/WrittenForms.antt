-- A component in its ranges: its numbers, with a name, fit the columns of a line.
use mathlib.Core.Path.{◌≡◌, refl, ◌∙◌, subst}
use mathlib.Core.Bool.{Bool, true, false, cond, false≢true}
use mathlib.Core.List.{List}
use Prim.Native.Nat.{ℕ, zero, suc, ◌+◌, ◌-◌, ◌*◌, ◌/◌, ◌^◌, ◌≤◌, ◌<◌}
use native.Mathlib.Nat.{add-zero, mul_comm, div-one, div-lt_iff_lt-mul, le_of_eq}
use native.Mathlib.Omega.{arith}
use lib.ListN.{length, get_or, length-append}
use borrow.Author.Tests.{ne_eqb}
use Rattle.std.specs.Prelude.{Option, Some, None, MatchOption, ⊤}
use Rattle.sequences.specs.Below.{sum_below, tabulate}
use Rattle.sequences.specs.Stretch.{stretch_of}
use Rattle.sequences.proofs.Below.{table_ext}
use Rattle.sequences.proofs.Stretch.{within, stretch-length, stretch_at}
use Rattle.flags.specs.Table.{FlagTable, entry, flag_count, rate_used, amount_used, in_use}
use Rattle.flags.proofs.Laws.{entry_says}
use Rattle.layout.specs.Places.{component_width}
use Rattle.layout.specs.declared.Component.{Component}
use Rattle.layout.specs.Components.{component_at, component_numbers}
use Rattle.fund.specs.Components.{zero_unless, most_rate}
use Rattle.fund.proofs.Laws.{ComponentRanges, unused_zero}
use Rattle.digits.specs.declared.Form.{Form}
use Rattle.digits.specs.Digits.{plain, cap, fixed, decimal, whole_text, plain_text, signed_text}
use Rattle.digits.specs.Fits.{Fits}
use Rattle.digits.proofs.Count.{fixed-length}
use Rattle.digits.proofs.Trip.{decimal_short}
use Rattle.lines.specs.Lines.{name_byte, all_bytes}
use Rattle.text_rules.specs.declared.Column.{Column}
use Rattle.text_rules.specs.Tables.{column_at}
use Rattle.text_rules.specs.Columns.{is_text, holds_text, numbers_before, number_cell, blank_cell, content_by, number_form, cell_at, part_at, content_at}
use Rattle.text_trip.specs.Trips.{CellFits, RowFits}
use Rattle.list_rules.specs.Shanghai.{shanghai, shanghai_columns, name_column, premium_column}

-- the a-th stretch of a run is the numbers of its a-th component
pub run_stretch : (run : List ℕ) (n a : ℕ) → length run ≡ component_width * n → a < n → stretch_of component_width run a ≡ component_numbers (component_at run a)
unfolding tabulate component_numbers component_at
run_stretch run n a e h =
    table_ext (λ k. get_or run (component_width * a + k) 0) component_width 0 (stretch_of component_width run a)
    (stretch-length component_width run a (omega (arith, within component_width a n h)))
    (λ k l. stretch_at component_width run a k l ∙ rw (mul_comm a component_width))
    ∙ rw (add-zero (component_width * a))

-- a column's form
abbrev form : Option ℕ → ℕ → ℕ → Form
form digits decimals width = record { digits = digits; decimals = decimals; signed = false; width = Some width }

-- what holds of a bound that is there, and of none
pub some_holds : (p : ℕ → Type 0) (n : ℕ) → p n → (most : ℕ) → Some n ≡ Some most → p most
some_holds p n h most e = let same : n ≡ most = cc in subst p same h

pub none_holds : (p : ℕ → Type 0) (most : ℕ) → None ≡ Some most → p most
none_holds p most e = absurd (subst (λ (x : Option ℕ). MatchOption x ⊤ (λ _. ⊥)) e tt)

-- a number that is not below zero fits by its digits and its width
pub plain_fits : (f : Form) (n : ℕ) → n ≤ cap → ((most : ℕ) → f.digits ≡ Some most → n / 10 ^ f.decimals < 10 ^ most)
    → ((most : ℕ) → f.width ≡ Some most → length (signed_text f (plain n)) ≤ most) → Fits f (plain n)
plain_fits f n h d w = record { within = h; sign = λ e. absurd (false≢true e); digits = d; width = w }

-- so many digits
fixed_fits : (digits n : ℕ) → n ≤ cap → n < 10 ^ digits → Fits (form (Some digits) 0 digits) (plain n)
unfolding signed_text plain_text whole_text
fixed_fits digits n h l =
    plain_fits (form (Some digits) 0 digits) n h (some_holds (λ m. n / 1 < 10 ^ m) digits (rw (div-one n) l))
    (some_holds (λ m. length (fixed digits n) ≤ m) digits (le_of_eq (fixed-length digits n)))

-- as many digits as n has, and no decimals
whole_fits : (width n : ℕ) → n ≤ cap → n < 10 ^ width → 1 ≤ width → width ≤ 19 → Fits (form None 0 width) (plain n)
unfolding signed_text plain_text whole_text
whole_fits zero n h l some most = absurd (omega arith)
whole_fits (suc d) n h l some most = plain_fits (form None 0 (suc d)) n h (none_holds (λ m. n / 1 < 10 ^ m)) (some_holds (λ m. length (decimal n) ≤ m) (suc d) (decimal_short d n l (omega arith)))

-- with decimals
point_fits : (width decimals n : ℕ) → (decimals ≡ 0 → ⊥) → n ≤ cap → n / 10 ^ decimals < 10 ^ (width - decimals - 1) → decimals + 2 ≤ width → width ≤ 20
    → Fits (form None decimals width) (plain n)
unfolding signed_text plain_text whole_text
point_fits width decimals n some h l wide most =
    let d = width - decimals - 2 in
    let e : width - decimals - 1 ≡ suc d = omega arith in
    plain_fits (form None decimals width) n h (none_holds (λ m. n / 10 ^ decimals < 10 ^ m))
    (some_holds (λ m. length (signed_text (form None decimals width) (plain n)) ≤ m) width
    (rw (ne_eqb decimals 0 some, length-append)
    (omega (arith, decimal_short d (n / 10 ^ decimals) (rw e at l) (omega arith), fixed-length decimals n))))

-- a column that the flag's row of the table says to be used or not
use_fits : (b : Bool) (c : Column) (n : ℕ) (s : List ℕ) → Fits (number_form c) (plain n) → (b ≡ false → n ≡ 0)
    → CellFits (cond b number_cell blank_cell) c n s
use_fits true c n s f z = f
use_fits false c n s f z = z refl

flag_fits : (t : FlagTable) (flag column : ℕ) (c : Column) (n : ℕ) (s : List ℕ) → Fits (number_form c) (plain n) → zero_unless (entry t flag column) n ≡ true
    → CellFits (cond (entry t flag column) number_cell blank_cell) c n s
flag_fits t flag column c n s f z = use_fits (entry t flag column) c n s f (unused_zero _ n z)

module _ (t : FlagTable) (g : ℕ) (c : Component) (r : ComponentRanges t g c) where
  -- either rate
  rate_low : (rate : ℕ) → rate ≤ most_rate → rate / 100_000 < 10
  rate_low rate h = (div-lt_iff_lt-mul {k = 100_000} {x = rate} {y = 10} (omega arith)).1 (omega (arith, h))

  rate_fits : (rate : ℕ) (words : List ℕ) → rate ≤ most_rate → zero_unless (entry t c.flag rate_used) rate ≡ true
      → CellFits (cond (entry t c.flag rate_used) number_cell blank_cell) (column_at shanghai_columns premium_column) rate words
  unfolding shanghai_columns column_at number_form
  rate_fits rate words h used = flag_fits t c.flag rate_used _ rate words (point_fits _ _ rate (λ e. omega arith) (omega arith) (rate_low rate h) (omega arith) (omega arith)) used

  amount_low : c.amount.0 / 1_000 < 100_000_000
  amount_low = (div-lt_iff_lt-mul {k = 1_000} {x = c.amount.0} {y = 100_000_000} (omega arith)).1 (omega (arith, r.amount))

  -- a flag in use is one of the table's, so it is one digit
  flag_low : c.flag < flag_count
  flag_low = (entry_says t c.flag in_use r.flag).flag_low

  -- code, name, quantity, flag, premium, discount and amount
  pub component_fits : (words : List ℕ) → all_bytes name_byte (part_at shanghai_columns words name_column) ≡ true → RowFits (shanghai t) (component_numbers c) words
  unfolding shanghai_columns component_numbers content_at content_by cell_at numbers_before holds_text is_text column_at sum_below number_form
  component_fits words name zero h = fixed_fits _ c.code (omega (arith, r.code)) (omega (arith, r.code))
  component_fits words name (suc zero) h = name
  component_fits words name (suc (suc zero)) h = whole_fits _ c.quantity (omega (arith, r.quantity)) (omega (arith, r.quantity)) (omega arith) (omega arith)
  component_fits words name (suc (suc (suc zero))) h = fixed_fits _ c.flag (omega (arith, flag_low)) (omega (arith, flag_low))
  component_fits words name (suc (suc (suc (suc zero)))) h = rate_fits c.premium.0 _ r.premium r.premium_use
  component_fits words name (suc (suc (suc (suc (suc zero))))) h = rate_fits c.discount.0 _ r.discount r.discount_use
  component_fits words name (suc (suc (suc (suc (suc (suc zero)))))) h =
      flag_fits t c.flag amount_used _ c.amount.0 _ (point_fits _ _ c.amount.0 (λ e. omega arith) (omega (arith, r.amount)) amount_low (omega arith) (omega arith)) r.amount_use
  component_fits words name (suc (suc (suc (suc (suc (suc (suc k))))))) h = absurd (omega arith)
