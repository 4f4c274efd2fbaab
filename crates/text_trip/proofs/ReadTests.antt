-- What the tests 18 and 19 say of a text that passes them.
use mathlib.Core.Path.{◌≡◌}
use mathlib.Core.Bool.{true, false, not}
use mathlib.Core.List.{List}
use Prim.Native.Nat.{ℕ, ◌≤◌, ◌<◌}
use lib.Dec.{ltb}
use lib.ListN.{length}
use borrow.Author.Tests.{ltb-false, not-false}
use Rattle.sequences.specs.Checks.{passes}
use Rattle.sequences.proofs.Below.{first_all, first_stops}
use Rattle.sequences.proofs.Checks.{passed_all}
use Rattle.lines.specs.Lines.{next_at, same}
use Rattle.text_rules.specs.Tables.{TextForm, field_at}
use Rattle.text_rules.specs.Head.{head_lines, is_field, is_head_line, end_word}
use Rattle.text_rules.specs.Columns.{is_row, column_fault}
use Rattle.text_rules.specs.Reading.{start_of, line_stands, wrong_line, row_start, rows_from, row_count, end_start, shape_checks, word_of, wrong_field, row_of, wrong_row, field_checks}
use Rattle.text_trip.proofs.Below.{first_before}

pub record Reads (t : TextForm) (text : List ℕ) : Type 0 where
  pub lines : (k : ℕ) → k < head_lines t.fields → line_stands (is_head_line t.fields k) text (start_of text k) ≡ true
  pub rows : (j : ℕ) → j < row_count t text → line_stands (is_row t.columns) text (row_start t text j) ≡ true
  pub last : line_stands (λ l. same l end_word) text (end_start t text) ≡ true
  pub ends : length text ≤ next_at text (end_start t text)
  pub fields : (k : ℕ) → k < length t.fields → is_field (field_at t.fields k) (word_of t.fields text k) ≡ true
  pub columns : (j : ℕ) → j < row_count t text → column_fault t (row_of t text j) ≡ length t.columns

module _ (t : TextForm) (text : List ℕ) where
  -- a component line with no column at fault
  column_end : (l : List ℕ) → ltb (column_fault t l) (length t.columns) ≡ false → column_fault t l ≡ length t.columns
  unfolding column_fault
  column_end l e = first_stops _ (length t.columns) e

  -- the searches of the tests find nothing
  lines_stand : ltb (wrong_line t.fields text) (head_lines t.fields) ≡ false
      → (k : ℕ) → k < head_lines t.fields → line_stands (is_head_line t.fields k) text (start_of text k) ≡ true
  unfolding wrong_line
  lines_stand e k l = not-false _ (first_all _ (head_lines t.fields) (first_stops _ _ e) k l)

  rows_stand : (j : ℕ) → j < row_count t text → line_stands (is_row t.columns) text (row_start t text j) ≡ true
  unfolding row_count rows_from row_start
  rows_stand j l = not-false _ (first_before (λ i. not (line_stands (is_row t.columns) text (row_start t text i))) _ j l)

  fields_stand : ltb (wrong_field t.fields text) (length t.fields) ≡ false
      → (k : ℕ) → k < length t.fields → is_field (field_at t.fields k) (word_of t.fields text k) ≡ true
  unfolding wrong_field
  fields_stand e k l = not-false _ (first_all _ (length t.fields) (first_stops _ _ e) k l)

  columns_stand : ltb (wrong_row t text) (row_count t text) ≡ false
      → (j : ℕ) → j < row_count t text → column_fault t (row_of t text j) ≡ length t.columns
  unfolding wrong_row
  columns_stand e j l = column_end (row_of t text j) (first_all _ (row_count t text) (first_stops _ _ e) j l)

  -- all this is so where both pass
  pub reads : passes (shape_checks t text) ≡ true → passes (field_checks t text) ≡ true → Reads t text
  unfolding shape_checks field_checks
  reads e f =
      let p = passed_all (shape_checks t text) e in
      let q = passed_all (field_checks t text) f in
      record {
        lines = lines_stand p.0;
        rows = rows_stand;
        last = not-false _ p.1.0;
        ends = ltb-false _ _ p.1.1.0;
        fields = fields_stand q.0;
        columns = columns_stand q.1.0;
      }
