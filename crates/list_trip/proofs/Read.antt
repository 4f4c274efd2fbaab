-- A text that is read is written again under the same table: no test of writing refuses its list, what is written is the text but for
-- the case of the names of its fields, and that reads back as the same list.
use mathlib.Core.Path.{◌≡◌, refl, sym, ap, ap₂, ◌∙◌}
use mathlib.Core.Bool.{true, false, not}
use mathlib.Core.List.{List, ◌++◌}
use Prim.Native.Nat.{ℕ, ◌*◌, ◌<◌, min}
use native.Mathlib.Nat.{le_refl}
use native.Mathlib.Omega.{arith}
use lib.Dec.{ltb}
use lib.ListN.{length}
use borrow.Author.Tests.{eq-eqb, le-ltb}
use Rattle.sequences.specs.Checks.{passes}
use Rattle.sequences.proofs.Below.{table_length, first_end}
use Rattle.sequences.proofs.Every.{every_none, every_more, inside-true}
use Rattle.sequences.proofs.Checks.{passes_all}
use Rattle.sequences.proofs.Stretch.{within, stretch-length}
use Rattle.flags.specs.Table.{FlagTable}
use Rattle.layout.specs.Places.{component_width, most_components, limit_count}
use Rattle.rules.specs.Opening.{table_checks}
use Rattle.rules.proofs.SoundDay.{table_passed}
use Rattle.lines.specs.Lines.{line_text, name_byte, all_bytes}
use Rattle.text_rules.specs.Head.{head_lines, end_word}
use Rattle.text_rules.specs.Columns.{holds_text, is_text}
use Rattle.text_rules.specs.Tables.{column_at}
use Rattle.text_rules.specs.Reading.{row_count, letters_read, figure_read, texts_read}
use Rattle.text_rules.specs.Writing.{words_at, head_text, rows_text, sheet_text}
use Rattle.text_trip.specs.Trips.{sheet_read, renamed, WrittenAgain}
use Rattle.text_trip.proofs.Read.{read_writes as text-writes}
use Rattle.list_rules.specs.Shanghai.{shanghai, shanghai_shape, shanghai_columns, shanghai_fields, name_column, name_width}
use Rattle.list_rules.specs.Fields.{fields_from, figure_at}
use Rattle.list_rules.specs.Reading.{fields_read, components_run, read_fault}
use Rattle.list_rules.specs.Writing.{name_at, sheet_of, text_of, sizes_fit, name_fault, write_fault, list_checks}
use Rattle.list_trip.specs.Trips.{names_read, list_read, ReadWrites}
use Rattle.list_rules.proofs.Shape.{body_same, count_same, checks_same}
use Rattle.list_rules.proofs.Lent.{shanghai_well, fields_count}
use Rattle.list_trip.proofs.Form.{line_numbers_lem, line_words_lem, part_name}
use Rattle.list_trip.proofs.Names.{names_texts}
use Rattle.list_trip.proofs.WrittenSheet.{words_at_lem}
use Rattle.list_trip.proofs.Written.{written_reads}
use Rattle.list_trip.proofs.ReadTests.{Reads, reads, count_read}
use Rattle.list_trip.proofs.ReadFigures.{head_same, figures_again, figures_small}

-- a text that is read, as a text in the Shanghai form
pub text_again : (t : FlagTable) (text : List ℕ) → Reads t text → WrittenAgain (shanghai t) text
text_again t text r = text-writes (shanghai t) text (shanghai_well t) (ap passes (checks_same t text) ∙ r.shape) r.fields

-- the names of its fields are the same under every table
pub renamed_same : (t : FlagTable) (text : List ℕ) → renamed (shanghai t) text ≡ renamed shanghai_shape text
unfolding renamed
renamed_same t text = rw (body_same t text)

module _ (t : FlagTable) (text : List ℕ) (r : Reads t text) where
  -- the run and the names have their lengths
  run_length : length (components_run t text) ≡ component_width * row_count shanghai_shape text
  unfolding components_run
  run_length = omega (arith, count_same t text, rw line_numbers_lem at (text_again t text r).run_length)

  names-length : length (names_read text) ≡ name_width * row_count shanghai_shape text
  names-length = rw (names_texts text r.shape t) (omega (arith, count_same t text, rw line_words_lem at (text_again t text r).texts-length))

  -- no name is at fault
  name_fine : (j : ℕ) → j < row_count shanghai_shape text → all_bytes name_byte (name_at (names_read text) j) ≡ true
  unfolding name_at holds_text is_text column_at shanghai_columns
  name_fine j h =
      ap (all_bytes name_byte) (same ∙ sym (part_name (words_at (shanghai t) (texts_read (shanghai t) text) j) (ap length (sym same) ∙ long)))
      ∙ (text_again t text r).words j name_column (omega (arith, h, count_same t text)) (omega arith) refl
    where
      same : name_at (names_read text) j ≡ words_at (shanghai t) (texts_read (shanghai t) text) j
      same = ap (λ (s : List ℕ). name_at s j) (names_texts text r.shape t) ∙ sym (words_at_lem t (texts_read (shanghai t) text) j)

      long : length (name_at (names_read text) j) ≡ name_width
      long = stretch-length name_width (names_read text) j (omega (arith, names-length, within name_width j (row_count shanghai_shape text) h))

  name_fault_lem : name_fault (names_read text) (row_count shanghai_shape text) ≡ row_count shanghai_shape text
  unfolding name_fault
  name_fault_lem = first_end _ (row_count shanghai_shape text) (λ j h. ap not (name_fine j h))

  -- the list has as many components as the text has lines of them
  count_is : (list_read t text).fields.count ≡ row_count shanghai_shape text
  unfolding list_read
  count_is = (count_read t text r).2

  -- it passes each test of writing
  sizes_fit_lem : sizes_fit (list_read t text) ≡ true
  unfolding sizes_fit list_read
  sizes_fit_lem =
      let p = count_read t text r in
      rw count_is
      (every_more _ _ (inside-true 1 most_components (row_count shanghai_shape text) p.0 p.1)
      (every_more _ _ (eq-eqb _ _ run_length) (every_more _ _ (eq-eqb _ _ names-length) every_none)))

  no_fault : ltb (write_fault t (list_read t text)) (list_read t text).fields.count ≡ false
  unfolding write_fault list_read read_fault
  no_fault =
      rw (count_is, r.fault, name_fault_lem)
      (le-ltb (min (row_count shanghai_shape text) (row_count shanghai_shape text)) (row_count shanghai_shape text) (omega arith))

  list_passes : passes (list_checks t (list_read t text)) ≡ true
  unfolding list_checks list_read table_checks
  list_passes =
      passes_all (list_checks t (list_read t text))
      ((table_passed t r.loads).0, (ap not sizes_fit_lem, (rw (r.ranges, (text_again t text r).letters), (no_fault, tt))))

  -- its text is the one of what was read
  head_again : head_text shanghai_fields (letters_read text) (figure_at (fields_read text)) (head_lines shanghai_fields)
      ≡ head_text shanghai_fields (letters_read text) (figure_read shanghai_fields text) (head_lines shanghai_fields)
  head_again = head_same shanghai_fields (letters_read text) _ _ (λ k h. figures_again t text r k (omega (arith, fields_count))) (head_lines shanghai_fields)

  sheet_again : text_of t (list_read t text) ≡ sheet_text (shanghai t) (sheet_read (shanghai t) text)
  unfolding text_of sheet_of sheet_text list_read sheet_read components_run
  sheet_again =
      ap₂ ◌++◌ head_again
      (ap₂ (λ (n : ℕ) (s : List ℕ). rows_text (shanghai t) (components_run t text) s n ++ line_text end_word) ((count_read t text r).2 ∙ sym (count_same t text)) (names_texts text r.shape t))

  again : text_of t (list_read t text) ≡ renamed shanghai_shape text
  again = sheet_again ∙ (text_again t text r).again (λ k h. figures_small t text r k (omega (arith, fields_count))) ∙ renamed_same t text

  -- its fund has all its limits
  limits_length : length (list_read t text).fields.fund.limits ≡ limit_count
  unfolding list_read fields_read fields_from
  limits_length = table_length _ limit_count

-- the theorem
pub read_writes : ReadWrites
read_writes t text room e =
    let r = reads t text room e in
    let p = list_passes t text r in
    (p, again t text r, (written_reads t (list_read t text) _ (limits_length t text r) p (le_refl _)).1)
