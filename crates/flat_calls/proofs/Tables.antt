-- What the table of a call on a text says of the call's answer.
use mathlib.Core.Path.{◌≡◌, sym, ap, ◌∙◌}
use mathlib.Core.Logic.{◌≢◌}
use mathlib.Core.List.{List}
use Prim.Native.Nat.{ℕ}
use lib.ListN.{length}
use borrow.Author.Tests.{eq-eqb, ne_eqb, lt-ltb, le-ltb}
use denote.Bor.{Bor}
use Rattle.std.specs.Prelude.{Option, Some, None, Ok, Err}
use Rattle.sequences.specs.Below.{below}
use Rattle.sequences.specs.Checks.{answering}
use Rattle.sequences.proofs.Below.{below_some_facts, below_none_fact}
use Rattle.flags.specs.Table.{FlagTable, flag_count, table_width, table_of, table_fault}
use Rattle.rules.specs.declared.Refusal.TheVariants.{FlagTable as WrongTable}
use Rattle.rules.specs.Opening.{table_checks}
use Rattle.flat_calls.specs.Table.{numbers_given, table_given, under_table, TableGiven}

module _ (table numbers : List ℕ) (e : numbers ≡ numbers_given table) where
  -- another length than a table's
  pub short_run : length numbers ≢ table_width → TableGiven table (Err (WrongTable 0))
  unfolding under_table
  short_run n = λ r. rw (← e, ne_eqb (length numbers) table_width n)

  module _ (whole : length numbers ≡ table_width) (found : Bor FlagTable) (t : found.now ≡ table_of numbers) (fault : Option ℕ)
      (f : fault ≡ below flag_count (table_fault found.now)) where
    same : found.now ≡ table_given table
    same = t ∙ ap table_of e

    pub table_faulty : (flag : ℕ) → fault ≡ Some flag → TableGiven table (Err (WrongTable flag))
    unfolding under_table table_checks answering
    table_faulty flag s =
        let at = below_some_facts flag_count (table_fault found.now) flag (sym s ∙ f) in
        λ r. rw (← e, eq-eqb (length numbers) table_width whole, ← t, lt-ltb (table_fault found.now) flag_count at.1, at.0)

    pub table_loads : fault ≡ None → TableGiven table (Ok found)
    unfolding under_table table_checks answering
    table_loads n =
        let past = below_none_fact flag_count (table_fault found.now) (sym n ∙ f) in
        (same, λ r. rw (← e, eq-eqb (length numbers) table_width whole, ← t, le-ltb (table_fault found.now) flag_count past))
