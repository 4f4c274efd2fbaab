-- The component lines and the last line in the text of a sheet that fits.
use Rattle.std.proofs.lemmas.Grind.{common_steps}
use mathlib.Core.Path.{◌≡◌, refl, sym, ap, ◌∙◌}
use mathlib.Core.Bool.{Bool, true, false, not, ◌||◌, false≢true, and-eq-true_iff}
use mathlib.Core.List.{List, [], ◌∷◌, ◌++◌, append_assoc}
use Prim.Native.Nat.{ℕ, zero, suc, ◌+◌, ◌*◌, ◌/◌, ◌≤◌, ◌<◌}
use native.Mathlib.Nat.{le_of_eq, le-div_iff_mul-le}
use native.Mathlib.Omega.{arith}
use lib.ListN.{length, get_or, take, drop, length-drop}
use lib.Seq.{take_at, drop-drop}
use lib.Dec.{ltb, eqb}
use borrow.Author.Tests.{le-ltb}
use Rattle.sequences.specs.Below.{sum_below}
use Rattle.sequences.proofs.Below.{all_at, first_here, first_end}
use Rattle.sequences.proofs.Every.{false_of}
use Rattle.sequences.proofs.Stretch.{within, stretch-length}
use Rattle.lines.specs.Lines.{next_at, line_text, same, name_byte, other_byte, all_bytes}
use Rattle.lines.proofs.Laws.{same_refl, length-line_text}
use Rattle.text_rules.specs.Tables.{TextForm}
use Rattle.text_rules.specs.Head.{end_word}
use Rattle.text_rules.specs.Columns.{column_width, column_start, line_width, line_pitch, line_numbers, line_words, is_row, column_fault, numbers_read, words_read, row_text}
use Rattle.text_rules.specs.Reading.{line_stands, body_start, row_start, rows_from, row_count, end_start, row_of, wrong_row}
use Rattle.text_rules.specs.Writing.{Sheet, numbers_at, words_at, rows_text, sheet_text}
use Rattle.text_rules.proofs.Well.{WellForm}
use Rattle.text_trip.specs.Trips.{SheetFits}
use Rattle.text_trip.proofs.Below.{part-drop, part_end, sum_const, length_below}
use Rattle.text_trip.proofs.Flag.{flag_well_lem}
use Rattle.text_trip.proofs.WrittenLines.{stands_there, next_there}
use Rattle.text_trip.proofs.WrittenRow.{RowWritten, row_written}
use Rattle.text_trip.proofs.WrittenText.{behind_head}

-- the next line starts behind this one
next_past : (text : List ℕ) (at : ℕ) → at ≤ next_at text at
unfolding next_at
next_past text at = omega arith

-- so many lines of one pitch, where they fit the text
fit_count : (n pitch size : ℕ) → 0 < pitch → n * pitch ≤ size → n < size / pitch + 1
fit_count n pitch size some h = omega (arith, (le-div_iff_mul-le {k = pitch} {x = n} {y = size} some).1 h)

-- the last line has no bar, so that it is no component line
not_first : (a b : Bool) → not (a || b) ≡ true → a ≡ false
not_first true b e = sym e
not_first false b e = refl

no_bar : (l : List ℕ) (i : ℕ) → all_bytes name_byte l ≡ true → eqb (get_or l i 0) 124 ≡ false
unfolding all_bytes name_byte
no_bar [] i e = refl
no_bar (b ∷ l) zero e = not_first (eqb b 124) _ ((and-eq-true_iff (name_byte b) (all_bytes name_byte l)).0 e).0
no_bar (b ∷ l) (suc i) e = no_bar l i ((and-eq-true_iff (name_byte b) (all_bytes name_byte l)).0 e).1

end_none : (t : TextForm) → WellForm t → is_row t.columns end_word ≡ false
unfolding is_row all_bytes name_byte
end_none t well =
    false_of _
    (λ e.
    let place : ℕ = column_start t.columns t.flag_at + column_width t.columns t.flag_at in
    let bars = ((and-eq-true_iff (eqb (length end_word) (line_width t.columns)) _).0 e).1 in
    false≢true (sym (no_bar end_word place refl) ∙ all_at _ (length t.columns) bars t.flag_at (flag_well_lem t well).there))

-- Component lines of the width of a line.
module _ (t : TextForm) (run texts : List ℕ) (n : ℕ)
    (wide : (j : ℕ) → j < n → length (row_text t (numbers_at t run j) (words_at t texts j)) ≡ line_width t.columns) where
  -- one with its end has the pitch of a line, and all of them have it so many times
  pub line_pitch_lem : (j : ℕ) → j < n → length (line_text (row_text t (numbers_at t run j) (words_at t texts j))) ≡ line_pitch t.columns
  unfolding line_pitch
  line_pitch_lem j h = length-line_text _ ∙ ap (λ (k : ℕ). k + 2) (wide j h)

  pub rows-length : length (rows_text t run texts n) ≡ n * line_pitch t.columns
  unfolding rows_text
  rows-length = length_below (line_pitch t.columns) _ n line_pitch_lem

module _ (t : TextForm) (s : Sheet) (well : WellForm t) (fits : SheetFits t s) where
  -- the j-th component line, and what holds of it
  abbrev row_line : ℕ → List ℕ
  row_line j = row_text t (numbers_at t s.run j) (words_at t s.texts j)

  row_fine : (j : ℕ) → j < s.count → RowWritten t (numbers_at t s.run j) (words_at t s.texts j)
  unfolding numbers_at words_at
  row_fine j h =
      row_written t well (numbers_at t s.run j) (words_at t s.texts j) (fits.rows j h)
      (stretch-length (line_words t.columns) s.texts j (omega (arith, fits.texts-length, within (line_words t.columns) j s.count h)))
      (stretch-length (line_numbers t.columns) s.run j (omega (arith, fits.run_length, within (line_numbers t.columns) j s.count h)))

  line_wide : (j : ℕ) → j < s.count → length (line_text (row_line j)) ≡ line_pitch t.columns
  line_wide = line_pitch_lem t s.run s.texts s.count (λ j h. (row_fine j h).wide)

  -- from the j-th on, behind the head
  from_row : (j : ℕ) → drop (row_start t (sheet_text t s) j) (sheet_text t s)
      ≡ drop (sum_below (λ _. line_pitch t.columns) j) (rows_text t s.run s.texts s.count ++ line_text end_word)
  unfolding row_start
  from_row j =
      sym (drop-drop (j * line_pitch t.columns) (body_start t (sheet_text t s)) (sheet_text t s))
      ∙ ap (drop (j * line_pitch t.columns)) (behind_head t s well fits)
      ∙ ap (λ (n : ℕ). drop n (rows_text t s.run s.texts s.count ++ line_text end_word)) (sym (sum_const (line_pitch t.columns) j))

  -- the j-th stands where reading looks for it, and the last line behind them
  row_drop : (j : ℕ) → j < s.count → (r : List ℕ) × (drop (row_start t (sheet_text t s) j) (sheet_text t s) ≡ line_text (row_line j) ++ r)
  unfolding rows_text
  row_drop j h =
      let d = part-drop (λ _. line_pitch t.columns) (λ i. line_text (row_line i)) s.count line_wide (line_text end_word) j h in
      (d.0, from_row j ∙ d.1)

  end_drop : drop (row_start t (sheet_text t s) s.count) (sheet_text t s) ≡ line_text end_word ++ []
  unfolding rows_text
  end_drop = grind (arith, common_steps, from_row, part_end, line_wide)

  -- each of them is a component line
  row_stands : (j : ℕ) → j < s.count → line_stands (is_row t.columns) (sheet_text t s) (row_start t (sheet_text t s) j) ≡ true
  row_stands j h =
      let d = row_drop j h in
      stands_there (sheet_text t s) (row_start t (sheet_text t s) j) (row_line j) d.0 (row_fine j h).clean d.1 (is_row t.columns)
      ∙ (row_fine j h).stands

  end_there : (test : List ℕ → Bool) → line_stands test (sheet_text t s) (row_start t (sheet_text t s) s.count) ≡ test end_word
  unfolding all_bytes other_byte
  end_there = stands_there (sheet_text t s) (row_start t (sheet_text t s) s.count) end_word [] refl end_drop

  -- the text reaches to the end of the last line
  end_next : next_at (sheet_text t s) (row_start t (sheet_text t s) s.count) ≡ length (sheet_text t s)
  unfolding all_bytes other_byte line_text
  end_next =
      next_there (sheet_text t s) (row_start t (sheet_text t s) s.count) end_word [] refl end_drop
      ∙ (omega (arith, ap length end_drop, length-drop (row_start t (sheet_text t s) s.count) (sheet_text t s)))

  -- so many component lines stand before the first line that is none
  pub count_there : row_count t (sheet_text t s) ≡ s.count
  unfolding row_count rows_from row_start line_pitch
  count_there =
      first_here (λ j. not (line_stands (is_row t.columns) (sheet_text t s) (row_start t (sheet_text t s) j)))
      (length (sheet_text t s) / line_pitch t.columns + 1) s.count
      (fit_count s.count (line_pitch t.columns) (length (sheet_text t s)) (omega arith)
      (omega (arith, end_next, next_past (sheet_text t s) (row_start t (sheet_text t s) s.count))))
      (first_end _ s.count (λ j h. ap not (row_stands j h)))
      (ap not (end_there (is_row t.columns) ∙ end_none t well))

  -- the last line stands behind them, and nothing more
  pub end_stands : line_stands (λ l. same l end_word) (sheet_text t s) (end_start t (sheet_text t s)) ≡ true
  unfolding end_start same
  end_stands = grind (arith, common_steps, count_there, end_there, same_refl)

  pub end_last : next_at (sheet_text t s) (end_start t (sheet_text t s)) ≡ length (sheet_text t s)
  unfolding end_start
  end_last = ap (λ (n : ℕ). next_at (sheet_text t s) (row_start t (sheet_text t s) n)) count_there ∙ end_next

  -- the bytes of the j-th
  row_there : (j : ℕ) → j < s.count → row_of t (sheet_text t s) j ≡ row_line j
  unfolding row_of line_text
  row_there j h =
      let d = row_drop j h in
      ap (take (line_width t.columns)) (d.1 ∙ append_assoc (row_line j) (13 ∷ 10 ∷ []) d.0)
      ∙ take_at (row_line j) (13 ∷ 10 ∷ d.0) (line_width t.columns) (row_fine j h).wide

  -- no column is at fault
  pub no_row : wrong_row t (sheet_text t s) ≡ row_count t (sheet_text t s)
  unfolding wrong_row
  no_row = first_end _ (row_count t (sheet_text t s)) sound
    where
      sound : (j : ℕ) → j < row_count t (sheet_text t s) → ltb (column_fault t (row_of t (sheet_text t s) j)) (length t.columns) ≡ false
      sound j h =
          let k : j < s.count = omega (arith, count_there) in
          le-ltb _ _ (le_of_eq (sym (ap (column_fault t) (row_there j k) ∙ (row_fine j k).fault)))

  -- the numbers and the words are the ones written
  pub numbers_there : (j : ℕ) → j < s.count → numbers_read t (row_of t (sheet_text t s) j) ≡ numbers_at t s.run j
  numbers_there j h = ap (numbers_read t) (row_there j h) ∙ (row_fine j h).numbers_read_lem

  pub words_there : (j : ℕ) → j < s.count → words_read t (row_of t (sheet_text t s) j) ≡ words_at t s.texts j
  words_there j h = ap (words_read t) (row_there j h) ∙ (row_fine j h).words_read_lem
