-- The component lines that are written by the code's form are the list's.
use mathlib.Core.Path.{◌≡◌, refl, sym, ◌∙◌}
use mathlib.Core.Bool.{true}
use Prim.Native.Nat.{ℕ, ◌*◌, ◌/◌, ◌<◌}
use native.Mathlib.Nat.{mul-div_cancel}
use native.Mathlib.Omega.{arith}
use lib.ListN.{length}
use Rattle.sequences.specs.Checks.{passes}
use Rattle.flags.specs.Table.{FlagTable}
use Rattle.text_rules.specs.Tables.{TextForm}
use Rattle.text_rules.specs.Columns.{line_pitch, line_numbers, line_words, content_at, column_text, row_text}
use Rattle.text_rules.specs.Writing.{numbers_at, words_at, rows_text}
use Rattle.text_rows_writing.specs.Lines.{RowsFit}
use Rattle.list_rules.specs.Shanghai.{shanghai_columns, shanghai_lines}
use Rattle.list_rules.specs.Writing.{Listing, sheet_of, list_checks}
use Rattle.list_trip.proofs.WrittenSheet.{rows_fit_lem, sheet_fits}
use Rattle.list_writing_tests.specs.Parts.{lines_of}
use Rattle.list_writing_tests.proofs.Sizes.{lines_long}

-- a component line is the same whatever the fields of the head are
lines_ours : (t : FlagTable) (l : Listing) → rows_text (shanghai_lines t) l.run l.names l.fields.count ≡ lines_of t l
unfolding rows_text numbers_at words_at row_text column_text content_at
lines_ours t l = refl

fit_ours : (t : FlagTable) (l : Listing) → passes (list_checks t l) ≡ true → RowsFit (shanghai_lines t) l.run l.names l.fields.count
unfolding numbers_at words_at content_at
fit_ours t l e = rows_fit_lem t l e

-- what writing the component lines asks of the list
module _ (t : FlagTable) (l : Listing) (p : passes (list_checks t l) ≡ true) where
  run_long : length l.run ≡ l.fields.count * line_numbers shanghai_columns
  unfolding sheet_of
  run_long = (sheet_fits t l p).run_length

  names_long : length l.names ≡ l.fields.count * line_words shanghai_columns
  unfolding sheet_of
  names_long = (sheet_fits t l p).texts-length

-- so many lines have their bytes
pitch_some : 0 < line_pitch shanghai_columns
unfolding line_pitch
pitch_some = omega arith

-- by the code's form
module _ {t : FlagTable} (form : TextForm) (e : form ≡ shanghai_lines t) (l : Listing) where
  pub lines_lent : {n : ℕ} → n ≡ l.fields.count → rows_text form l.run l.names n ≡ lines_of t l
  lines_lent h = rw (h, e) (lines_ours t l)

  module _ (p : passes (list_checks t l) ≡ true) {m : ℕ} (long : m ≡ length (lines_of t l)) where
    -- as many lines as there is room for
    pub rows_counted : m / line_pitch form.columns ≡ l.fields.count
    rows_counted = rw (long, e, ← lines_long t l p _ refl) (mul-div_cancel l.fields.count pitch_some)

    pub rows_ask : {n : ℕ} → n ≡ l.fields.count
        → ((length l.run ≡ n * line_numbers form.columns) × (length l.names ≡ n * line_words form.columns)) × ((m ≡ n * line_pitch form.columns) × RowsFit form l.run l.names n)
    rows_ask h = rw (h, e) ((run_long t l p, names_long t l p), (long ∙ sym (lines_long t l p _ refl), fit_ours t l p))
