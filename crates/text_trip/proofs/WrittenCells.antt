-- A column as it is written, by what it has: words, a number or blanks. It is as wide as it is to be, reads back, and has no 0D.
use mathlib.Core.Path.{◌≡◌, refl, sym, ap}
use mathlib.Core.Bool.{Bool, true, false, false≢true, true≢false}
use mathlib.Core.List.{List}
use Prim.Native.Nat.{ℕ, zero, suc}
use lib.ListN.{length, replicate, length-replicate}
use Rattle.digits.specs.declared.Figure.{Figure}
use Rattle.digits.specs.Digits.{plain}
use Rattle.digits.proofs.Trip.{number_read, figure_read_lem, number_width, blank_all}
use Rattle.lines.specs.Lines.{other_byte, all_bytes}
use Rattle.lines.proofs.Laws.{no_cr, names-no_cr}
use Rattle.text_rules.specs.declared.Column.{Column}
use Rattle.text_rules.specs.Columns.{Content, words_cell, number_cell, blank_cell, number_form, is_cell, cell_of, cell_text}
use Rattle.text_rules.proofs.Well.{WellColumn}
use Rattle.text_trip.specs.Trips.{CellFits}
use Rattle.text_trip.proofs.Flag.{Holds}
use Rattle.text_trip.proofs.WrittenHead.{number-no_cr}

-- blanks are no 0D
blanks-no_cr : (k : ℕ) → no_cr (replicate k 32) ≡ true
unfolding all_bytes other_byte
blanks-no_cr zero = refl
blanks-no_cr (suc k) = blanks-no_cr k

-- The text of a column c from the number n and the words s.
module _ (c : Column) (n : ℕ) (s : List ℕ) where
  -- it is as wide as the column
  pub cell_wide : (x : Content) (b : Bool) → WellColumn c → Holds x b → (b ≡ true → length s ≡ c.width) → CellFits x c n s
      → length (cell_text x c n s) ≡ c.width
  unfolding cell_text number_form
  cell_wide words_cell b w h long f = long h
  cell_wide number_cell b w h long f = number_width (number_form c) (plain n) f c.width refl
  cell_wide blank_cell b w h long f = length-replicate c.width 32

  -- it is as it is to be written
  pub cell_is : (x : Content) → CellFits x c n s → is_cell x c (cell_text x c n s) ≡ true
  unfolding cell_text is_cell
  cell_is words_cell f = f
  cell_is number_cell f = number_read (number_form c) (plain n) f
  cell_is blank_cell f = blank_all c.width

  -- it says the number, or is the words
  pub cell_says : (x : Content) → Holds x false → CellFits x c n s → cell_of x c (cell_text x c n s) ≡ n
  unfolding cell_text cell_of
  cell_says words_cell h f = absurd (false≢true h)
  cell_says number_cell h f = ap (λ (z : Figure). z.size) (figure_read_lem (number_form c) (plain n) f)
  cell_says blank_cell h f = sym f

  pub cell_words : (x : Content) → Holds x true → cell_text x c n s ≡ s
  unfolding cell_text
  cell_words words_cell h = refl
  cell_words number_cell h = absurd (true≢false h)
  cell_words blank_cell h = absurd (true≢false h)

  -- no byte of it is 0D
  pub cell-no_cr : (x : Content) → CellFits x c n s → no_cr (cell_text x c n s) ≡ true
  unfolding cell_text
  cell-no_cr words_cell f = names-no_cr s f
  cell-no_cr number_cell f = number-no_cr (number_form c) (plain n)
  cell-no_cr blank_cell f = blanks-no_cr c.width
