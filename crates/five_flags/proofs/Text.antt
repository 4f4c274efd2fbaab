-- Reading and writing are what the columns make of them: by the table that is given, and so under our table by document 01's five rows.
use mathlib.Core.Path.{◌≡◌, refl, sym, fun_ext, ◌∙◌}
use mathlib.Core.Bool.{true}
use mathlib.Core.List.{List, ◌++◌, map}
use Prim.Native.Nat.{ℕ}
use lib.ListN.{get_or-map}
use borrow.Author.Tests.{ltb-true}
use Rattle.sequences.specs.Every.{every}
use Rattle.sequences.specs.Checks.{Check, answering, answered}
use Rattle.sequences.proofs.Every.{every_at}
use Rattle.flags.specs.Table.{flag_table}
use Rattle.flags.proofs.Laws.{ours_loads}
use Rattle.fund.specs.Components.{component_fault}
use Rattle.text_rules.specs.declared.Use.TheVariants.{Always, ByFlag, Text}
use Rattle.text_rules.specs.Tables.{column_at, no_column}
use Rattle.text_rules.specs.Columns as columns
use Rattle.text_rules.specs.Reading as text_rules
use Rattle.text_rules.specs.Writing as sheets
use Rattle.list_rules.specs.Shanghai.{shanghai_columns}
use Rattle.list_rules.specs.Reading as list_reading
use Rattle.list_rules.specs.Writing as list_writing
use Rattle.rules.specs.Opening.{table_checks}
use Rattle.five_flags.specs.Text.{five_content, five_used, names_column, use_of}
use Rattle.five_flags.specs.Text.{content_in, column_fault, numbers_read, run_read, wrong_row, field_checks, read_fault, range_checks, reading}
use Rattle.five_flags.specs.Text.{row_text, text_of, write_fault, writing}
use Rattle.five_flags.specs.TextAsBefore.{content_under, content_before, ReadingFollows, WritingFollows, BlanksAsBefore, ReadingAsBefore, WritingAsBefore}
use Rattle.five_flags.specs.Sound as before
use Rattle.five_flags.proofs.Table.{our_columns}
use Rattle.five_flags.proofs.Sound.{components_as_before}

-- ---- under any table

pub reading_follows : ReadingFollows
unfolding content_in column_fault numbers_read run_read wrong_row field_checks read_fault range_checks reading
    columns.flag_of columns.content_of columns.wrong_cell columns.column_fault columns.cell_read columns.numbers_read
    text_rules.body_start text_rules.row_start text_rules.row_count text_rules.row_of
    text_rules.wrong_row text_rules.column_place text_rules.field_checks text_rules.run_read
    list_reading.components_run list_reading.read_fault list_reading.range_checks list_reading.read_checks list_reading.read_reply
    list_reading.fields_handed list_reading.first_handed list_reading.run_after
reading_follows t text run = refl

pub writing_follows : WritingFollows
unfolding row_text text_of write_fault writing table_checks
    columns.content_at columns.column_text columns.row_text
    sheets.numbers_at sheets.words_at sheets.rows_text sheets.sheet_text
    list_writing.sheet_of list_writing.text_of list_writing.write_fault list_writing.list_checks list_writing.write_checks list_writing.write_reply
    list_writing.output_after
writing_follows t l output = refl

-- ---- under our table

pub blanks_as_before : BlanksAsBefore
unfolding names_column columns.content_by columns.used_by five_content five_used
blanks_as_before flag Always h = (refl, refl)
blanks_as_before flag (ByFlag column) h = let same = our_columns flag column (ltb-true _ _ h) in (rw same refl, same)
blanks_as_before flag Text h = (refl, refl)

-- each column of the form is used always, as text or by one of the six columns
uses_columns : (k : ℕ) → names_column (use_of k) ≡ true
unfolding column_at shanghai_columns names_column every
uses_columns k = sym (get_or-map (λ c. names_column c.used) shanghai_columns k no_column) ∙ every_at (map (λ c. names_column c.used) shanghai_columns) refl k

same_content : content_under flag_table ≡ content_before
same_content = fun_ext (λ flag. fun_ext (λ k. (blanks_as_before flag (use_of k) (uses_columns k)).0))

same_fault : component_fault flag_table ≡ before.component_fault
same_fault = fun_ext (λ g. fun_ext (λ cs. fun_ext (λ n. components_as_before g cs n)))

-- 21 is passed
passed : (checks : List Check) (v : ℕ) → answered (table_checks flag_table ++ checks) v ≡ answered checks v
unfolding table_checks answering
passed checks v = rw ours_loads refl

pub reading_as_before : ReadingAsBefore
unfolding reading
reading_as_before text run = reading_follows flag_table text run ∙ rw (passed, same_content, same_fault) refl

pub writing_as_before : WritingAsBefore
unfolding writing
writing_as_before l output = writing_follows flag_table l output ∙ rw (passed, same_content, same_fault) refl
