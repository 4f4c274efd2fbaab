-- The component lines of a text as the code reads them, and what is found in them.
use mathlib.Core.Path.{◌≡◌, refl, sym, ap, ◌∙◌}
use mathlib.Core.Bool.{Bool, true, false, not}
use mathlib.Core.List.{List}
use Prim.Native.Nat.{ℕ, ◌+◌, ◌<◌}
use native.Mathlib.Omega.{arith}
use lib.ListN.{length}
use borrow.Author.Tests.{not-true, not-false}
use Rattle.std.specs.Prelude.{Option}
use Rattle.std.specs.Option.{ok_or}
use Rattle.sequences.proofs.Below.{first_none, first_more, first_here, first_all}
use Rattle.flags.specs.Table.{FlagTable}
use Rattle.units.specs.declared.Rate.{Rate}
use Rattle.units.specs.declared.Money.{Money}
use Rattle.digits.specs.Digits.{size_reading}
use Rattle.text_rules.specs.Tables.{TextForm, column_at}
use Rattle.text_rules.specs.Columns.{is_text, holds_text, flag_of, content_of, wrong_cell, column_fault, cell_read}
use Rattle.list_rules.specs.declared.ListColumn.{ListColumn}
use Rattle.list_rules.specs.declared.ListColumn.TheVariants as columns
use Rattle.list_rules.specs.Places.{column_place}
use Rattle.list_rules.specs.Shanghai.{shanghai, shanghai_columns, shanghai_lines}
use Rattle.list_rules.specs.Shanghai.{code_column, name_column, quantity_column, flag_column, premium_column, discount_column, amount_column}
use Rattle.list_rules.specs.Reading.{line_component}
use Rattle.list_rows.specs.Rows.{RightBefore, NumberRead}

-- A column, by its name in the code.

pub column_there : (column : ListColumn) → column_place column < length shanghai_columns
unfolding shanghai_columns
column_there columns.Code = omega arith
column_there columns.Name = omega arith
column_there columns.Quantity = omega arith
column_there columns.Flag = omega arith
column_there columns.Premium = omega arith
column_there columns.Discount = omega arith
column_there columns.Amount = omega arith

-- which of them hold text
pub code_holds : holds_text shanghai_columns code_column ≡ false
unfolding holds_text is_text column_at shanghai_columns
code_holds = refl

pub name_holds : holds_text shanghai_columns name_column ≡ true
unfolding holds_text is_text column_at shanghai_columns
name_holds = refl

pub quantity_holds : holds_text shanghai_columns quantity_column ≡ false
unfolding holds_text is_text column_at shanghai_columns
quantity_holds = refl

pub flag_holds : holds_text shanghai_columns flag_column ≡ false
unfolding holds_text is_text column_at shanghai_columns
flag_holds = refl

pub premium_holds : holds_text shanghai_columns premium_column ≡ false
unfolding holds_text is_text column_at shanghai_columns
premium_holds = refl

pub discount_holds : holds_text shanghai_columns discount_column ≡ false
unfolding holds_text is_text column_at shanghai_columns
discount_holds = refl

pub amount_holds : holds_text shanghai_columns amount_column ≡ false
unfolding holds_text is_text column_at shanghai_columns
amount_holds = refl

pub ruleset columns_hold = (code_holds, quantity_holds, flag_holds, premium_holds, discount_holds, amount_holds)

-- a line says the same whatever the fields of the head are
wrong_ours : (t : FlagTable) (l : List ℕ) (k : ℕ) → wrong_cell (shanghai_lines t) l k ≡ wrong_cell (shanghai t) l k
unfolding wrong_cell content_of flag_of
wrong_ours t l k = refl

read_ours : (t : FlagTable) (l : List ℕ) (k : ℕ) → cell_read (shanghai_lines t) l k ≡ cell_read (shanghai t) l k
unfolding cell_read content_of flag_of
read_ours t l k = refl

-- a column behind right ones is right too, or the first at fault
pub right_first : (t : FlagTable) (l : List ℕ) → RightBefore t l code_column
right_first t l = first_none _

module _ (t : FlagTable) (l : List ℕ) (column : ListColumn) (before : RightBefore t l (column_place column)) where
  pub right_next : wrong_cell (shanghai t) l (column_place column) ≡ false → RightBefore t l (column_place column + 1)
  right_next e = first_more (wrong_cell (shanghai t) l) (column_place column) before e

  pub fault_here : wrong_cell (shanghai t) l (column_place column) ≡ true → column_place column ≡ column_fault (shanghai t) l
  unfolding column_fault
  fault_here e = sym (first_here (wrong_cell (shanghai t) l) (length shanghai_columns) (column_place column) (column_there column) before e)

  number_or : (b : Bool) → wrong_cell (shanghai t) l (column_place column) ≡ b → NumberRead t l column (ok_or (size_reading (not b) (cell_read (shanghai t) l (column_place column))) column)
  number_or true e = fault_here e
  number_or false e = (right_next e, refl)

module _ {t : FlagTable} {form : TextForm} (ours : form ≡ shanghai_lines t) (column : ListColumn) {place : ℕ} (at : place ≡ column_place column) where
  pub column_of : {b : Bool} → holds_text shanghai_columns (column_place column) ≡ b → (place < length form.columns) × (holds_text form.columns place ≡ b)
  column_of e = rw (ours, at) (column_there column, e)

  module _ (l : List ℕ) where
    pub wrong_of : wrong_cell form l place ≡ wrong_cell (shanghai t) l (column_place column)
    wrong_of = rw (ours, at) (wrong_ours t l (column_place column))

    pub read_of : cell_read form l place ≡ cell_read (shanghai t) l (column_place column)
    read_of = rw (ours, at) (read_ours t l (column_place column))

    pub number_of : RightBefore t l (column_place column) → {r : Option ℕ} → r ≡ size_reading (not (wrong_cell form l place)) (cell_read form l place)
        → NumberRead t l column (ok_or r column)
    number_of before e = rw (e, wrong_of, read_of) (number_or t l column before _ refl)

-- the name, as the code tests it
module _ {t : FlagTable} {form : TextForm} (ours : form ≡ shanghai_lines t) {place : ℕ} (at : place ≡ name_column) (l : List ℕ) (before : RightBefore t l name_column)
    {words : Bool} (e : words ≡ not (wrong_cell form l place)) where
  pub name_right : words ≡ true → RightBefore t l (name_column + 1)
  name_right h = right_next t l columns.Name before (sym (wrong_of ours columns.Name at l) ∙ not-true _ (sym e ∙ h))

  pub name_fault : words ≡ false → name_column ≡ column_fault (shanghai t) l
  name_fault h = fault_here t l columns.Name before (sym (wrong_of ours columns.Name at l) ∙ not-false _ (sym e ∙ h))

-- One line.

module _ (t : FlagTable) (l : List ℕ) where
  pub fault_none : RightBefore t l (amount_column + 1) → column_fault (shanghai t) l ≡ length shanghai_columns
  unfolding column_fault shanghai_columns
  fault_none right = right

  -- where none is at fault, each is right
  pub column_right : column_fault (shanghai t) l ≡ length shanghai_columns → (column : ListColumn) → wrong_cell (shanghai t) l (column_place column) ≡ false
  unfolding column_fault
  column_right none column = first_all (wrong_cell (shanghai t) l) (length shanghai_columns) none (column_place column) (column_there column)

  -- its component, number by number
  pub component_is : {code quantity flag : ℕ} {premium discount : Rate} {amount : Money} → code ≡ cell_read (shanghai t) l code_column
      → quantity ≡ cell_read (shanghai t) l quantity_column → flag ≡ cell_read (shanghai t) l flag_column → premium.0 ≡ cell_read (shanghai t) l premium_column
      → discount.0 ≡ cell_read (shanghai t) l discount_column → amount.0 ≡ cell_read (shanghai t) l amount_column
      → record { code = code; quantity = quantity; flag = flag; premium = premium; discount = discount; amount = amount } ≡ line_component t l
  unfolding line_component
  component_is {code} {quantity} {flag} {premium} {discount} {amount} c q f p d a =
      let premium_is : premium ≡ record { 0 = cell_read (shanghai t) l premium_column } = ap (λ (n : ℕ). record { 0 = n }) p in
      let discount_is : discount ≡ record { 0 = cell_read (shanghai t) l discount_column } = ap (λ (n : ℕ). record { 0 = n }) d in
      let amount_is : amount ≡ record { 0 = cell_read (shanghai t) l amount_column } = ap (λ (n : ℕ). record { 0 = n }) a in
      cc
