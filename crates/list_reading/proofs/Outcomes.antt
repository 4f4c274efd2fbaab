-- What reading answers, where the test of the component lines refuses and where all is stored.
use Prim.Native.Nat.{ℕ, ◌*◌, ◌≤◌}
use mathlib.Core.Path.{◌≡◌, refl, ap, ◌∙◌}
use mathlib.Core.Bool.{true, false, not}
use mathlib.Core.List.{List, ◌++◌}
use native.Mathlib.Omega.{arith}
use lib.ListN.{length, drop}
use borrow.Author.Tests.{le-ltb}
use Rattle.std.proofs.Common.{None, Ok, Err}
use Rattle.sequences.specs.Below.{below}
use Rattle.sequences.specs.Checks.{is_accepted, reply, passes}
use Rattle.sequences.proofs.Below.{below_none_fact}
use Rattle.flags.specs.Table.{FlagTable, flag_count, table_fault}
use Rattle.rules.specs.declared.Refusal.TheVariants.{TextField}
use Rattle.layout.specs.Places.{component_width}
use Rattle.text_rules.specs.Reading.{row_count, wrong_row, column_place, shape_checks}
use Rattle.list_rules.specs.declared.ListFields.{ListFields}
use Rattle.list_rules.specs.declared.Rows.{Rows}
use Rattle.list_rules.specs.Shanghai.{shanghai, shanghai_shape}
use Rattle.list_rules.specs.Reading.{components_run, read_fault, read_reply, fields_handed, first_handed, run_after}
use Rattle.list_reading.specs.Outcome.{ReadOutcome}
use Rattle.list_reading.specs.Stages.{Ranged}
use Rattle.list_reading.proofs.Handed.{counted_facts}
use Rattle.list_reading.proofs.Replies.{field_wrong, row_wrong, reply_19_row, reply_0}

module _ (t : FlagTable) (text run : List ℕ) where
  pub row_outcome : {place : ℕ} → table_fault t ≡ flag_count → passes (shape_checks shanghai_shape text) ≡ true → field_wrong text ≡ false
      → (row_wrong t text ≡ true) × (place ≡ column_place (shanghai t) text (wrong_row (shanghai t) text)) → ReadOutcome t text run (Err (TextField place)) run
  unfolding run_after is_accepted
  row_outcome {place} loads shape fields w =
      let said : reply 19 place 0 ≡ read_reply t text (length run) = rw w.1 (reply_19_row t text (length run) loads shape fields w.0) in
      record { answer_is = said; handed = tt; run_is = rw (← said) refl }

  pub stored_outcome : {rows : Rows} {fields : ListFields} → Ranged t text rows fields → None ≡ below rows.count (read_fault t text) → component_width * rows.count ≤ length run
      → {run' : List ℕ} → run' ≡ components_run t text ++ drop (component_width * rows.count) run
      → ReadOutcome t text run (Ok (record { fields = fields; first_row = rows.start })) run'
  unfolding fields_handed first_handed run_after is_accepted
  stored_outcome {rows} {fields} v none room {run'} e =
      let fine = le-ltb (read_fault t text) (row_count shanghai_shape text) (omega (arith, below_none_fact rows.count (read_fault t text) none, v.stand.count_is)) in
      let fits = le-ltb (length run) (component_width * row_count shanghai_shape text) (omega (arith, room, v.stand.count_is)) in
      let said : reply 0 0 (row_count shanghai_shape text) ≡ read_reply t text (length run) =
      reply_0 t text (length run) v.loads v.stand.lines_stand v.fields_well_lem (ap not v.counted) (ap not v.ranged) fine fits
      in
      let count : fields.count ≡ row_count shanghai_shape text = ap (λ (l : ListFields). l.count) v.fields_are ∙ (counted_facts _ _ v.counted).0 in
      record {
        answer_is = rw count said;
        handed =
            record {
              fields_is = v.fields_are;
              first_is = v.stand.start_is;
              fields_handed_is = v.fields_are ∙ rw (← said) refl;
              first_handed_is = v.stand.start_is ∙ rw (← said) refl;
            };
        run_is = e ∙ rw (← said, v.stand.count_is) refl;
      }
