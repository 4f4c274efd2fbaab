-- As many lines as the part of the output has room for.
use Prim.Native.Nat.{◌/◌}
use lib.ListN.{length}
use Rattle.text_rules.specs.Columns.{line_pitch}
use Rattle.list_writing.proofs.put_lines.Given as goal

abbrev pub ghost-put_rows : goal.ghost-put_rows
ghost-put_rows a = length a.rows.now / line_pitch a.form.now.columns
