-- Reading through the flat layout: its fields are those that were read.
use mathlib.Core.Path.{◌≡◌}
use mathlib.Core.Bool.{true}
use mathlib.Core.List.{List}
use Prim.Native.Nat.{ℕ}
use native.Mathlib.Omega.{arith}
use Rattle.std.proofs.lemmas.Bool.Decides.{nat_tests}
use lib.ListN.{length}
use Rattle.sequences.specs.Checks.{answering, is_accepted}
use Rattle.rules.specs.Opening.{table_checks}
use Rattle.sequences.proofs.Below.{table_length}
use Rattle.layout.specs.Places.{limit_count}
use Rattle.fund.proofs.Laws.{fund_sound, cash_size}
use Rattle.list_rules.specs.Fields.{fields_from}
use Rattle.list_rules.specs.Reading.{fields_read, read_reply}
use Rattle.list_rules.proofs.Ranges.{fields_sound}
use Rattle.list_trip.proofs.ReadTests.{reads}
use Rattle.list_layout.specs.Run.{fields_at}
use Rattle.list_layout.proofs.Laws.{fields_flat}
use Rattle.flat_calls.specs.Table.{table_given, under_table}
use Rattle.flat_calls.specs.Text.{Taking, of_width, taking_reply, TextRead}

-- the chain: the fields that an accepted reading leaves are those that it read
module _ (table text : List ℕ) (t : Taking) (accepted : is_accepted (taking_reply table text t) ≡ true) where
  accepted_by : taking_reply table text t ≡ read_reply (table_given table) text (length t.run)
  unfolding taking_reply under_table table_checks answering of_width is_accepted
  accepted_by = grind (arith, nat_tests)

  pub fields_through : (number place value : ℕ) (after : Taking) → TextRead table text t number place value after → fields_at after.fields ≡ fields_read text
  unfolding fields_read fields_from
  fields_through number place value after out =
      let same = accepted_by in
      let reading : is_accepted (read_reply (table_given table) text (length t.run)) ≡ true = rw same at accepted in
      let ranges = fields_sound (fields_read text) (reads (table_given table) text (length t.run) reading).ranges in
      rw (out.fields_is, accepted)
      (fields_flat (fields_read text) (table_length _ limit_count) (cash_size _ (fund_sound _ ranges.fund).cash) (cash_size _ ranges.cash))
