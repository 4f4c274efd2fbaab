-- The columns of a line: their bytes as the code has them, and what it reads of them.
use Prim.Native.Nat.{ℕ, ◌+◌, ◌-◌, ◌≤◌, ◌<◌}
use mathlib.Core.Path.{◌≡◌, refl, sym, ap, ◌∙◌}
use mathlib.Core.Bool.{Bool, true, false, not, false≢true}
use mathlib.Core.List.{List}
use native.Mathlib.Nat.{add-sub_cancel_left}
use native.Mathlib.Omega.{arith}
use lib.ListN.{length, get_or, take, drop, length-drop}
use lib.Seq.{length-take-le}
use Rattle.std.specs.Prelude.{Option, Some, is_some}
use Rattle.digits.specs.Digits.{size_reading}
use Rattle.lines.specs.Lines.{name_byte, all_bytes}
use Rattle.text_rules.specs.declared.Use.{Use}
use Rattle.text_rules.specs.declared.Use.TheVariants.{Always, ByFlag, Text}
use Rattle.text_rules.specs.declared.Column.{Column}
use Rattle.text_rules.specs.declared.Taken.{Taken}
use Rattle.text_rules.specs.Tables.{TextForm, column_at}
use Rattle.text_rules.specs.Columns.{column_start, column_width, line_width, is_text, holds_text, content_by, used_by, is_cell, part_of, taken_before, flag_of, content_of, wrong_cell, cell_read}
use Rattle.text_rules.specs.Well.{most_width, columns_well}
use Rattle.text_rules.proofs.Tables.{end_line}
use Rattle.text_rules.proofs.Well.{column_well_lem}
use Rattle.text_rules.proofs.Placed.{bytes_of}
use Rattle.text_columns.specs.Read.{cell_size}
use Rattle.text_columns.proofs.Cells.{cell_reading, column_cell}

not_not : (b : Bool) → not (not b) ≡ b
not_not true = refl
not_not false = refl

text_use_lem : (u : Use) → is_text u ≡ true → u ≡ Text
unfolding is_text
text_use_lem Always e = absurd (false≢true e)
text_use_lem (ByFlag column) e = absurd (false≢true e)
text_use_lem Text e = refl

module _ (t : TextForm) (k : ℕ) (there : k < length t.columns) (l : List ℕ) (long : line_width t.columns ≤ length l) where
  -- `part_of`, by the table's start and width
  module _ {cs : List Column} (mine : cs ≡ t.columns) {start : ℕ} (at : start ≡ column_start cs k) {c : Column} (e : c ≡ column_at t.columns k) where
    pub column_room : start + c.width ≤ length l
    unfolding column_width
    column_room = omega (arith, ap (λ (c : Column). c.width) e, at, ap (λ (cs : List Column). column_start cs k) mine, end_line t.columns k there, long)

    pub column_part : take (start + c.width - start) (drop start l) ≡ part_of t.columns k l
    unfolding part_of column_width
    column_part = rw (add-sub_cancel_left start c.width, at, mine, e)

  part_long : length (part_of t.columns k l) ≡ (column_at t.columns k).width
  unfolding part_of column_width
  part_long = length-take-le _ _ (omega (arith, end_line t.columns k there, long, length-drop (column_start t.columns k) l))

  -- a column that is well made, and what is read of it by the flag
  module _ {c : Column} (e : c ≡ column_at t.columns k) {s : List ℕ} (is : s ≡ part_of t.columns k l) where
    pub cell_narrow : columns_well t.columns ≡ true → length s ≤ most_width
    cell_narrow well = omega (arith, ap length is, part_long, (column_well_lem t.columns well k there).narrow)

    module _ (number : holds_text t.columns k ≡ false) {used : Bool} (u : used ≡ used_by t.flags (flag_of t l) c.used) where
      cell_is : cell_size used c.digits c.decimals s ≡ size_reading (not (wrong_cell t l k)) (cell_read t l k)
      unfolding holds_text cell_reading wrong_cell cell_read content_of
      cell_is =
          rw (u, e, is) (column_cell t.flags (flag_of t l) (column_at t.columns k) (part_of t.columns k l) number)
          ∙ sym (ap (λ (b : Bool). size_reading b (cell_read t l k)) (not_not _))

      pub reading_lem : {r : Option ℕ} → r ≡ cell_size used c.digits c.decimals s → r ≡ size_reading (not (wrong_cell t l k)) (cell_read t l k)
      reading_lem r = r ∙ cell_is

      module _ (right : wrong_cell t l k ≡ false) where
        known_is : cell_size used c.digits c.decimals s ≡ Some (cell_read t l k)
        known_is = cell_is ∙ rw right refl

        pub cell_right : is_some (cell_size used c.digits c.decimals s) ≡ true
        cell_right = ap is_some known_is

        pub known_lem : {n : ℕ} → cell_size used c.digits c.decimals s ≡ Some n → n ≡ cell_read t l k
        known_lem {n} h = let same : ◌≡◌ {A = Option ℕ} (Some n) (Some (cell_read t l k)) = sym h ∙ known_is in cc

-- the flag's byte is within the line, and what it says
module _ (t : TextForm) (l : List ℕ) {taken : Taken} (before : taken ≡ taken_before t.columns t.flag_at) where
  pub flag_room : t.flag_at < length t.columns → line_width t.columns ≤ length l → taken.bytes < length l
  flag_room there long = omega (arith, bytes_of t.columns t.flag_at before, end_line t.columns t.flag_at there, long)

  pub flag_is : {flag : ℕ} → flag ≡ get_or l taken.bytes 0 - 48 → flag ≡ flag_of t l
  unfolding flag_of
  flag_is f = f ∙ ap (λ (n : ℕ). get_or l n 0 - 48) (bytes_of t.columns t.flag_at before)

-- a column that holds text
pub words_right : (t : TextForm) (k : ℕ) (l : List ℕ) → holds_text t.columns k ≡ true → all_bytes name_byte (part_of t.columns k l) ≡ not (wrong_cell t l k)
unfolding holds_text wrong_cell content_of is_cell content_by
words_right t k l e = rw (text_use_lem _ e) (sym (not_not _))
