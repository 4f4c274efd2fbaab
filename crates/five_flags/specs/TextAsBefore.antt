-- Text blanks follow the columns: under any table, and so under our table as document 01's five rows have them.
use Rattle.std.specs.Prelude.{ℕ, ◌≡◌, true, List, [], length}
use Rattle.flags.specs.Table.{FlagTable, flag_table}
use Rattle.fund.specs.Components.{component_fault}
use Rattle.rules.specs.Opening.{table_checks}
use Rattle.text_rules.specs.declared.Use.{Use}
use Rattle.text_rules.specs.Columns.{Content, content_by, used_by}
use Rattle.list_rules.specs.Reading.{read_reply, fields_handed, first_handed, run_after}
use Rattle.list_rules.specs.Writing.{Listing, write_reply, output_after}
use Rattle.five_flags.specs.Text.{five_content, five_used, names_column, use_of, ReadOutcome, WriteOutcome, reading, writing}
use Rattle.five_flags.specs.Sound as before

-- what column k has in a line with that flag, by a table
abbrev pub content_under : FlagTable → ℕ → ℕ → Content
content_under t flag k = content_by t flag (use_of k)

abbrev pub content_before : ℕ → ℕ → Content
content_before flag k = five_content flag (use_of k)

-- the outcomes of reading and writing, by the definitions of crate list_rules
abbrev pub read : FlagTable → List ℕ → List ℕ → ReadOutcome
read t text run =
    record {
      answer = read_reply t text (length run);
      fields = fields_handed t text (length run);
      first = first_handed t text (length run);
      run = run_after t text run;
    }

abbrev pub written : FlagTable → Listing → List ℕ → WriteOutcome
written t l output = record { answer = write_reply t l (length output); output = output_after t l output }

-- ---- under any table
abbrev pub ReadingFollows : Type 0
ReadingFollows =
    (t : FlagTable) (text run : List ℕ) → read t text run ≡ reading (content_under t) (component_fault t) (table_checks t) text run

abbrev pub WritingFollows : Type 0
WritingFollows =
    (t : FlagTable) (l : Listing) (output : List ℕ)
    → written t l output ≡ writing (content_under t) (component_fault t) (table_checks t) l output

-- ---- under our table: blanks, reading and writing, which then pass 21
abbrev pub BlanksAsBefore : Type 0
BlanksAsBefore =
    (flag : ℕ) (u : Use) → names_column u ≡ true
    → (content_by flag_table flag u ≡ five_content flag u) × (used_by flag_table flag u ≡ five_used flag u)

abbrev pub ReadingAsBefore : Type 0
ReadingAsBefore = (text run : List ℕ) → read flag_table text run ≡ reading content_before before.component_fault [] text run

abbrev pub WritingAsBefore : Type 0
WritingAsBefore =
    (l : Listing) (output : List ℕ) → written flag_table l output ≡ writing content_before before.component_fault [] l output
