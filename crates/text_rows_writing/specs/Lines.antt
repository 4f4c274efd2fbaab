-- What the component lines hold while they are written column by column.
use Rattle.std.specs.Prelude.{ℕ, zero, suc, ◌+◌, ◌-◌, ◌*◌, ◌<◌, ◌≡◌, true, List, [], ◌∷◌, ◌++◌, length, get_or, take, drop, replicate}
use Rattle.sequences.specs.Below.{join_below}
use Rattle.sequences.specs.Stretch.{stretch_of, on_stretch}
use Rattle.flags.specs.Table.{FlagTable}
use Rattle.digits.specs.Digits.{plain}
use Rattle.digits.specs.Fits.{Fits}
use Rattle.digits.specs.Written.{put}
use Rattle.text_rules.specs.declared.Column.{Column}
use Rattle.text_rules.specs.declared.Taken.{Taken}
use Rattle.text_rules.specs.Tables.{TextForm}
use Rattle.text_rules.specs.Columns.{column_start, line_pitch, line_numbers, line_words, number_form, column_text, used_by, taken_before}
use Rattle.text_rules.specs.Writing.{numbers_at, words_at}
use Rattle.text_rules.specs.Well.{columns_well, flag_well}
use Rattle.text_trip.specs.Trips.{RowFits}
use Rattle.text_cells_writing.specs.Cells.{used_text}

-- a number column's text in the i-th line, from a run that has so many numbers a line, the number and the flag at their places among them
unfoldable pub number_at : FlagTable → Column → List ℕ → ℕ → ℕ → ℕ → ℕ → List ℕ
number_at flags c run stride flagPlace place i =
    used_text (used_by flags (get_or run (i * stride + flagPlace) 0) c.used) c (get_or run (i * stride + place) 0)

-- so many words of the i-th line with the bar, from a run of texts that has so many bytes a line
unfoldable pub word_at : ℕ → List ℕ → ℕ → ℕ → ℕ → List ℕ
word_at width texts stride place i = take width (drop (i * stride + place) texts) ++ 124 ∷ []

-- the run b of lines of w bytes, with text i written from `at` on in each line i below n
unfoldable pub lines_put : ℕ → ℕ → (ℕ → List ℕ) → ℕ → List ℕ → List ℕ
lines_put w at text zero b = b
lines_put w at text (suc n) b = on_stretch w n (λ s. put s at (text n)) (lines_put w at text n b)

-- the part of each line below n, so many bytes from `at` on, holds only blanks
abbrev pub BlankAt : ℕ → ℕ → ℕ → ℕ → List ℕ → Type 0
BlankAt w at width n b = (i : ℕ) → i < n → take width (drop at (stretch_of w b i)) ≡ replicate width 32

-- in each line below n the number fits the column, where the column is used
abbrev pub NumbersFit : FlagTable → Column → List ℕ → ℕ → ℕ → ℕ → ℕ → Type 0
NumbersFit flags c run stride flagPlace place n =
    (i : ℕ) → i < n → used_by flags (get_or run (i * stride + flagPlace) 0) c.used ≡ true
    → Fits (number_form c) (plain (get_or run (i * stride + place) 0))

-- a line with its first k columns and their bars, and blanks behind them
unfoldable pub line_so_far : TextForm → List ℕ → List ℕ → ℕ → List ℕ
line_so_far t numbers words k =
    join_below (λ i. column_text t numbers words i ++ 124 ∷ []) k ++ replicate (line_pitch t.columns - column_start t.columns k) 32

-- a well-made table, with its flag and with what a whole line takes
pub record TableReady (cs : List Column) (flag_at : ℕ) (line : Taken) : Type 0 where
  pub well : columns_well cs ≡ true
  pub flag : flag_well cs flag_at ≡ true
  pub whole : line ≡ taken_before cs (length cs)

-- the numbers and the words of each line below n fit
abbrev pub RowsFit : TextForm → List ℕ → List ℕ → ℕ → Type 0
RowsFit t run texts n = (j : ℕ) → j < n → RowFits t (numbers_at t run j) (words_at t texts j)

-- so many lines of numbers and of words, that fit
pub record RowsReady (t : TextForm) (run texts : List ℕ) (count : ℕ) : Type 0 where
  pub numbers : length run ≡ count * line_numbers t.columns
  pub words : length texts ≡ count * line_words t.columns
  pub fits : RowsFit t run texts count

-- every line has its first k columns
pub record RowsSoFar (t : TextForm) (run texts : List ℕ) (count k : ℕ) (b : List ℕ) : Type 0 where
  pub long : length b ≡ count * line_pitch t.columns
  pub lines : (i : ℕ) → i < count → stretch_of (line_pitch t.columns) b i ≡ line_so_far t (numbers_at t run i) (words_at t texts i) k
