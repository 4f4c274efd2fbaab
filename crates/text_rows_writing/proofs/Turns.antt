-- A turn of the loop over the columns, with the places as the code has them: what the column's function asks, and what it leaves.
use mathlib.Core.Path.{◌≡◌, sym, ap, ◌∙◌}
use mathlib.Core.Bool.{Bool, true, false}
use mathlib.Core.List.{List}
use Prim.Native.Nat.{ℕ, ◌+◌, ◌*◌, ◌≤◌, ◌<◌}
use native.Mathlib.Omega.{arith}
use lib.ListN.{length, get_or}
use Rattle.flags.specs.Table.{FlagTable}
use Rattle.text_rules.specs.declared.Column.{Column}
use Rattle.text_rules.specs.declared.Taken.{Taken}
use Rattle.text_rules.specs.Tables.{TextForm, no_column, column_at}
use Rattle.text_rules.specs.Columns.{column_width, line_width, line_pitch, is_text, holds_text, numbers_before, line_numbers, line_words, taken_before, taken_pitch}
use Rattle.text_rules.specs.Well.{most_line, columns_well, flag_well}
use Rattle.text_rules.proofs.Tables.{end_line}
use Rattle.text_rules.proofs.Well.{column_well_lem}
use Rattle.text_rules.proofs.Placed.{whole_low}
use Rattle.text_rows_writing.specs.Lines.{number_at, word_at, lines_put, BlankAt, NumbersFit, TableReady, RowsReady, RowsSoFar}
use Rattle.text_rows_writing.proofs.Rows.{rows_blank, word_room, words_next, number_room, flag_room, numbers_fit, numbers_next}

pub table_ready : {cs columns : List Column} {flag_at : ℕ} {line : Taken} → columns_well cs ≡ true → flag_well cs flag_at ≡ true → columns ≡ cs
    → line ≡ taken_before columns (length columns) → TableReady cs flag_at line
table_ready w f e h = record { well = w; flag = f; whole = h ∙ ap (λ (t : List Column). taken_before t (length t)) e }

-- column k of the table as it is lent, and what the columns before it take
pub record AtColumn (t : TextForm) (k : ℕ) (taken : Taken) (c : Column) : Type 0 where
  pub inside : k < length t.columns
  pub place : taken ≡ taken_before t.columns k
  pub column : c ≡ column_at t.columns k

pub at_column : (t : TextForm) {k : ℕ} {table columns : List Column} {taken : Taken} → table ≡ columns → columns ≡ t.columns → k < length table
    → taken ≡ taken_before t.columns k → AtColumn t k taken (get_or table k no_column)
unfolding column_at
at_column t {k} e f h place =
    record { inside = omega (arith, h, ap length (e ∙ f)); place = place; column = ap (λ (cs : List Column). get_or cs k no_column) (e ∙ f) }

-- whether it holds text
pub holds_here : {t : TextForm} {k : ℕ} {taken : Taken} {c : Column} → AtColumn t k taken c → {b d : Bool} → b ≡ is_text c.used → b ≡ d → holds_text t.columns k ≡ d
unfolding holds_text
holds_here v f g = sym (f ∙ ap (λ (c : Column). is_text c.used) v.column) ∙ g

module _ {t : TextForm} {line : Taken} (whole : TableReady t.columns t.flag_at line) {run texts : List ℕ} {count : ℕ} (ready : RowsReady t run texts count)
    {k : ℕ} {taken : Taken} {c : Column} (here : AtColumn t k taken c) {b : List ℕ} (v : RowsSoFar t run texts count k b) where
  cell_room : taken.bytes + column_width t.columns k < taken_pitch line
  unfolding taken_before line_width
  cell_room = rw (here.place, whole.whole) (omega (arith, end_line t.columns k here.inside))

  rows-length : length b ≡ count * taken_pitch line
  unfolding taken_before line_width line_pitch
  rows-length = rw whole.whole v.long

  -- words
  module _ (text : holds_text t.columns k ≡ true) where
    pub words_ask : ((0 < c.width) × (taken.bytes + c.width < taken_pitch line) × (line.bytes ≤ most_line))
        × (((length texts ≡ count * line.words) × (taken.words + c.width ≤ line.words)) × (length b ≡ count * taken_pitch line))
    unfolding taken_before line_words column_width
    words_ask =
        rw here.column (
          ((column_well_lem t.columns whole.well k here.inside).some, cell_room, whole_low _ whole.whole whole.well),
          ((rw whole.whole ready.words, rw (here.place, whole.whole) (word_room _ _ _ _ ready k here.inside v text)), rows-length),
        )

    pub words_turn : {b' : List ℕ} → b' ≡ lines_put (taken_pitch line) taken.bytes (word_at c.width texts line.words taken.words) count b
        → RowsSoFar t run texts count (k + 1) b'
    unfolding taken_before line_words line_width line_pitch column_width
    words_turn f = words_next _ _ _ _ ready k here.inside v text (rw (here.place, whole.whole, here.column) at f)

  -- numbers
  module _ (number : holds_text t.columns k ≡ false) {flags : FlagTable} (table : flags ≡ t.flags) {flagPlace : ℕ}
      (flag : flagPlace ≡ numbers_before t.columns t.flag_at) where
    pub numbers_ask : ((taken.bytes + c.width < taken_pitch line) × (line.bytes ≤ most_line))
        × (((length run ≡ count * line.numbers) × (flagPlace < line.numbers) × (taken.numbers < line.numbers))
        × (((length b ≡ count * taken_pitch line) × BlankAt (taken_pitch line) taken.bytes c.width count b)
        × NumbersFit flags c run line.numbers flagPlace taken.numbers count))
    unfolding taken_before line_numbers line_width line_pitch column_width
    numbers_ask =
        rw here.column (
          (cell_room, whole_low _ whole.whole whole.well),
          rw (flag, table, here.place, whole.whole) (
            (
              ready.numbers,
              flag_room _ _ _ _ ready k here.inside v whole.flag number,
              number_room _ _ _ _ ready k here.inside v whole.flag number,
            ),
            (
              (v.long, rows_blank _ _ _ _ ready k here.inside v),
              numbers_fit _ _ _ _ ready k here.inside v whole.flag number,
            ),
          ),
        )

    pub numbers_turn : {b' : List ℕ} → b' ≡ lines_put (taken_pitch line) taken.bytes (number_at flags c run line.numbers flagPlace taken.numbers) count b
        → RowsSoFar t run texts count (k + 1) b'
    unfolding taken_before line_numbers line_width line_pitch
    numbers_turn f =
        numbers_next _ _ _ _ ready k here.inside v whole.flag number (rw (flag, table, here.place, whole.whole, here.column) at f)
