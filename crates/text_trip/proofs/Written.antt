-- A sheet that fits is written and reads back: each test of reading passes on its text, and each part is the one written.
use mathlib.Core.Path.{◌≡◌, sym, ap, ◌∙◌}
use mathlib.Core.Bool.{true, not}
use native.Mathlib.Nat.{le_of_eq}
use borrow.Author.Tests.{le-ltb}
use Rattle.sequences.specs.Below.{join_below}
use Rattle.sequences.specs.Checks.{passes}
use Rattle.sequences.proofs.Checks.{passes_all}
use Rattle.sequences.proofs.Stretch.{join_ext}
use Rattle.text_rules.specs.Tables.{TextForm}
use Rattle.text_rules.specs.Columns.{line_numbers, line_words, numbers_read, words_read}
use Rattle.text_rules.specs.Reading.{shape_checks, field_checks, row_of, run_read, texts_read}
use Rattle.text_rules.specs.Writing.{Sheet, numbers_at, words_at, sheet_text}
use Rattle.text_rules.proofs.Well.{WellForm, form_facts}
use Rattle.text_trip.specs.Trips.{SheetFits, WrittenReads}
use Rattle.text_trip.proofs.WrittenText.{no_line, letters_there, figure_there, no_field}
use Rattle.text_trip.proofs.WrittenRows.{count_there, end_stands, end_last, no_row, numbers_there, words_there}

module _ (t : TextForm) (s : Sheet) (well : WellForm t) (fits : SheetFits t s) where
  -- 18: every line stands
  shape_passes : passes (shape_checks t (sheet_text t s)) ≡ true
  unfolding shape_checks
  shape_passes =
      passes_all (shape_checks t (sheet_text t s)) (
        le-ltb _ _ (le_of_eq (sym (no_line t s well fits))),
        (ap not (end_stands t s well fits), (le-ltb _ _ (le_of_eq (sym (end_last t s well fits))), tt)),
      )

  -- 19: every field and every column is as it is to be written
  fields_pass : passes (field_checks t (sheet_text t s)) ≡ true
  unfolding field_checks
  fields_pass =
      passes_all (field_checks t (sheet_text t s))
      (le-ltb _ _ (le_of_eq (sym (no_field t s well fits))), (le-ltb _ _ (le_of_eq (sym (no_row t s well fits))), tt))

  -- the numbers and the words are those of the sheet
  run_there : run_read t (sheet_text t s) ≡ s.run
  unfolding run_read numbers_at
  run_there =
      ap (join_below (λ j. numbers_read t (row_of t (sheet_text t s) j))) (count_there t s well fits)
      ∙ sym
      (join_ext (λ j. numbers_read t (row_of t (sheet_text t s) j)) s.count (line_numbers t.columns) s.run fits.run_length
      (λ a h. sym (numbers_there t s well fits a h)))

  texts_there : texts_read t (sheet_text t s) ≡ s.texts
  unfolding texts_read words_at
  texts_there =
      ap (join_below (λ j. words_read t (row_of t (sheet_text t s) j))) (count_there t s well fits)
      ∙ sym
      (join_ext (λ j. words_read t (row_of t (sheet_text t s) j)) s.count (line_words t.columns) s.texts fits.texts-length
      (λ a h. sym (words_there t s well fits a h)))

-- the theorem
pub written_reads : WrittenReads
written_reads t s e fits =
    let well = form_facts t e in
    record {
      shape = shape_passes t s well fits;
      fields = fields_pass t s well fits;
      letters = letters_there t s well fits;
      figures = figure_there t s well fits;
      count = count_there t s well fits;
      run = run_there t s well fits;
      texts = texts_there t s well fits;
    }
