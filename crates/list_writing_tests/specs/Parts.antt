-- The parts of a list's text before its last line.
use Rattle.std.specs.Prelude.{ℕ, List}
use Rattle.flags.specs.Table.{FlagTable}
use Rattle.text_rules.specs.Head.{head_lines}
use Rattle.text_rules.specs.Writing.{head_text, rows_text}
use Rattle.list_rules.specs.Shanghai.{shanghai, shanghai_fields}
use Rattle.list_rules.specs.Fields.{figure_at}
use Rattle.list_rules.specs.Writing.{Listing}

-- the head
abbrev pub head_of : Listing → List ℕ
head_of l = head_text shanghai_fields l.letters (figure_at l.fields) (head_lines shanghai_fields)

-- the component lines, under a flag table
abbrev pub lines_of : FlagTable → Listing → List ℕ
lines_of t l = rows_text (shanghai t) l.run l.names l.fields.count
