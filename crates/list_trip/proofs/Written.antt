-- A list that is written reads back as itself under the same table: its sheet does in the Shanghai form, and its ranges pass.
use mathlib.Core.Path.{◌≡◌, refl, sym, ap, ◌∙◌}
use mathlib.Core.Bool.{true, not, ◌&&◌}
use mathlib.Core.List.{[], ◌∷◌}
use Prim.Native.Nat.{ℕ, ◌+◌, ◌*◌, ◌≤◌, ◌<◌}
use native.Mathlib.Nat.{le_of_eq}
use native.Mathlib.Omega.{arith}
use lib.Dec.{leb, ltb}
use lib.ListN.{length}
use borrow.Author.Tests.{le-ltb, le-leb, eq-eqb}
use Rattle.sequences.specs.Checks.{check, reply, passes}
use Rattle.sequences.proofs.Every.{inside-true}
use Rattle.sequences.proofs.Checks.{passes_all, answered_passed, answered_next}
use Rattle.flags.specs.Table.{FlagTable}
use Rattle.layout.specs.Places.{most_components, component_width, limit_count}
use Rattle.rules.specs.Opening.{table_checks}
use Rattle.rules.proofs.SoundDay.{table_passed}
use Rattle.text_rules.specs.Reading.{row_count, shape_checks, field_checks, figure_read, letters_read}
use Rattle.text_trip.specs.Trips.{ReadsBack}
use Rattle.text_trip.proofs.Written.{written_reads as sheet-reads}
use Rattle.list_rules.specs.Shanghai.{shanghai, shanghai_shape, shanghai_fields, field_count, creation_code_field}
use Rattle.list_rules.specs.Fields.{figure_at, fields_in_range}
use Rattle.list_rules.specs.Reading.{fields_read, components_run, is_counted, read_fault, range_checks, read_checks, read_reply}
use Rattle.list_rules.specs.Writing.{Listing, sheet_of, text_of}
use Rattle.list_rules.proofs.Fields.{fields_figures, fields_same}
use Rattle.list_trip.specs.Trips.{names_read, list_read, WrittenReads}
use Rattle.list_rules.proofs.Shape.{count_same, checks_same}
use Rattle.list_rules.proofs.Lent.{shanghai_well, fields_count}
use Rattle.list_trip.proofs.Names.{names_texts}
use Rattle.list_trip.proofs.WrittenPassing.{Passing, passing}
use Rattle.list_trip.proofs.WrittenSheet.{sheet_fits}

module _ (t : FlagTable) (l : Listing) (full : length l.fields.fund.limits ≡ limit_count) (p : Passing t l) (b : ReadsBack (shanghai t) (sheet_of l)) where
  -- what the sheet reads back as, of the list
  shape_passes : passes (shape_checks shanghai_shape (text_of t l)) ≡ true
  unfolding text_of
  shape_passes = ap passes (sym (checks_same t _)) ∙ b.shape

  fields_pass : passes (field_checks (shanghai t) (text_of t l)) ≡ true
  unfolding text_of
  fields_pass = b.fields

  count_there : row_count shanghai_shape (text_of t l) ≡ l.fields.count
  unfolding text_of sheet_of
  count_there = sym (count_same t _) ∙ b.count

  run_there : components_run t (text_of t l) ≡ l.run
  unfolding text_of sheet_of components_run
  run_there = b.run

  letters_there : letters_read (text_of t l) ≡ l.letters
  unfolding text_of sheet_of
  letters_there = b.letters

  names_there : names_read (text_of t l) ≡ l.names
  unfolding text_of sheet_of
  names_there = names_texts (text_of t l) shape_passes t ∙ b.texts

  figure_there : (k : ℕ) → k < field_count → figure_read shanghai_fields (text_of t l) k ≡ figure_at l.fields k
  unfolding text_of sheet_of
  figure_there k h = b.figures k (omega (arith, fields_count))

  -- the fields are those of the list
  fields_there : fields_read (text_of t l) ≡ l.fields
  unfolding fields_read
  fields_there = fields_same (figure_read shanghai_fields (text_of t l)) (figure_at l.fields) figure_there ∙ fields_figures l.fields full

  -- no component is at fault
  no_fault : read_fault t (text_of t l) ≡ row_count shanghai_shape (text_of t l)
  unfolding read_fault
  no_fault = rw (fields_there, count_there, run_there) p.components

  -- as many component lines as Recordnum says
  counted : is_counted (fields_read (text_of t l)).count (row_count shanghai_shape (text_of t l)) ≡ true
  unfolding is_counted
  counted =
      rw (fields_there, count_there, inside-true 1 most_components l.fields.count p.some p.few) (eq-eqb l.fields.count l.fields.count refl)

  -- the fields are in their ranges
  in_range : (leb 1 (figure_read shanghai_fields (text_of t l) creation_code_field).size && fields_in_range (fields_read (text_of t l))) ≡ true
  unfolding figure_at
  in_range = rw (figure_there creation_code_field (omega arith), fields_there) (rw (le-leb 1 (l.fields.fund.first_code + 1) (omega arith)) p.ranges)

  -- 20, 2 and 3 pass
  values_pass : passes (range_checks t (text_of t l)) ≡ true
  unfolding range_checks
  values_pass =
      passes_all (range_checks t (text_of t l))
      (ap not counted, (ap not in_range, (le-ltb _ _ (le_of_eq (sym no_fault)), tt)))

  -- all of them, under a table that loads, with room for the run
  reply_there : (room : ℕ) → component_width * l.fields.count ≤ room → read_reply t (text_of t l) room ≡ reply 0 0 l.fields.count
  unfolding read_reply read_checks
  reply_there room h =
      answered_next (table_checks t) _ _ (passes_all (table_checks t) (table_passed t p.loads))
      ∙ answered_next (shape_checks shanghai_shape (text_of t l)) _ _ shape_passes
      ∙ answered_next (field_checks (shanghai t) (text_of t l)) _ _ fields_pass
      ∙ answered_next (range_checks t (text_of t l)) _ _ values_pass
      ∙ answered_passed (check (ltb room (component_width * row_count shanghai_shape (text_of t l))) 16 0 ∷ []) _
      (passes_all _ (le-ltb room (component_width * row_count shanghai_shape (text_of t l)) (omega (arith, count_there)), tt))
      ∙ ap (λ (n : ℕ). reply 0 0 n) count_there

  list_there : list_read t (text_of t l) ≡ l
  unfolding list_read
  list_there = λ i. record { fields = fields_there i; run = run_there i; names = names_there i; letters = letters_there i }

-- the theorem
pub written_reads : WrittenReads
written_reads t l room full e h =
    let p = passing t l e in
    let b = sheet-reads (shanghai t) (sheet_of l) (shanghai_well t) (sheet_fits t l e) in
    (reply_there t l full p b room h, list_there t l full p b)
