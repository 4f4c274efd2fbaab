-- A flag table as a lent run of numbers: none where it is empty, and then it is ours.
use Rattle.std.specs.Prelude.{ℕ, ◌≡◌, cond, List, eqb, length, Result, Ok, Err}
use denote.Bor.{Bor}
use Rattle.sequences.specs.Checks.{Reply, reply, answering}
use Rattle.flags.specs.Table.{FlagTable, table_width, table_numbers, table_of, flag_table}
use Rattle.rules.specs.declared.Refusal.{Refusal}
use Rattle.rules.specs.Replies.{refusal_reply}
use Rattle.rules.specs.Opening.{table_checks}

-- the numbers that it gives, and the table that they say
unfoldable pub numbers_given : List ℕ → List ℕ
numbers_given table = cond (eqb (length table) 0) (table_numbers flag_table) table

abbrev pub table_given : List ℕ → FlagTable
table_given table = table_of (numbers_given table)

-- the answer r of a call on a text: 21 comes first, at place 0 where the run has another length than a table's
unfoldable pub under_table : List ℕ → Reply → Reply
under_table table r =
    cond (eqb (length (numbers_given table)) table_width) (answering (table_checks (table_given table)) r) (reply 21 0 0)

-- the table of such a call, where it loads, and then its answer is what comes behind; else it is the refusal's
abbrev pub TableGiven : List ℕ → Result (Bor FlagTable) Refusal → Type 0
TableGiven table (Ok found) = (found.now ≡ table_given table) × ((r : Reply) → under_table table r ≡ r)
TableGiven table (Err why) = (r : Reply) → under_table table r ≡ refusal_reply why
