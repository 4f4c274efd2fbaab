-- A line so far: all blanks at first, a column and its bar more each time, and with 0D 0A the line as it is to be.
use mathlib.Core.Path.{◌≡◌, refl, sym, ap, ◌∙◌}
use mathlib.Core.Bool.{Bool, true, false, cond, true≢false, false≢true}
use mathlib.Core.List.{List, [], ◌∷◌, ◌++◌, append_assoc, append-nil}
use Prim.Native.Nat.{ℕ, zero, suc, ◌+◌, ◌-◌, ◌≤◌, ◌<◌}
use native.Mathlib.Nat.{sub-zero}
use native.Mathlib.Omega.{arith}
use lib.ListN.{length, take, drop, replicate, length-append, length-drop, length-replicate, replicate-append-replicate}
use lib.Seq.{length-take-le, take_at, drop_at, drop-drop}
use Rattle.sequences.specs.Below.{sum_below, join_below}
use Rattle.sequences.proofs.Below.{sum_grows}
use Rattle.flags.specs.Table.{FlagTable, entry}
use Rattle.digits.specs.Digits.{plain}
use Rattle.digits.specs.Fits.{Fits}
use Rattle.digits.specs.Written.{put}
use Rattle.lines.specs.Lines.{line_text}
use Rattle.text_rules.specs.declared.Use.{Use}
use Rattle.text_rules.specs.declared.Use.TheVariants.{Always, ByFlag, Text}
use Rattle.text_rules.specs.declared.Column.{Column}
use Rattle.text_rules.specs.Tables.{TextForm, column_at}
use Rattle.text_rules.specs.Columns.{column_width, column_start, line_width, line_pitch, is_text, holds_text, words_before, line_words, number_cell}
use Rattle.text_rules.specs.Columns.{blank_cell, content_by, used_by, number_form, cell_text, cell_at, part_at, content_at, column_text, row_text}
use Rattle.text_rules.proofs.Tables.{end_line}
use Rattle.text_trip.specs.Trips.{CellFits, RowFits}
use Rattle.text_cells_writing.specs.Cells.{used_text}
use Rattle.text_cells_writing.proofs.Cells.{number-length}
use Rattle.text_rows_writing.specs.Lines.{line_so_far}

-- ---- a number column's text, and what fits it, by whether it is used
module _ (flags : FlagTable) (flag : ℕ) (c : Column) (n : ℕ) (s : List ℕ) where
  switch_text : (b : Bool) → used_text b c n ≡ cell_text (cond b number_cell blank_cell) c n s ++ 124 ∷ []
  unfolding used_text cell_text
  switch_text true = refl
  switch_text false = refl

  pub used_text_lem : (u : Use) → is_text u ≡ false → used_text (used_by flags flag u) c n ≡ cell_text (content_by flags flag u) c n s ++ 124 ∷ []
  unfolding is_text used_by content_by
  used_text_lem Always h = switch_text true
  used_text_lem (ByFlag column) h = switch_text _
  used_text_lem Text h = absurd (true≢false h)

  switch_fits : (b : Bool) → b ≡ true → CellFits (cond b number_cell blank_cell) c n s → Fits (number_form c) (plain n)
  switch_fits true e f = f
  switch_fits false e f = absurd (false≢true e)

  pub used_fits : (u : Use) → is_text u ≡ false → used_by flags flag u ≡ true → CellFits (content_by flags flag u) c n s → Fits (number_form c) (plain n)
  unfolding is_text used_by content_by
  used_fits Always h e f = f
  used_fits (ByFlag column) h e f = switch_fits _ e f
  used_fits Text h e f = absurd (true≢false h)

  pub words_text : (u : Use) → is_text u ≡ true → cell_text (content_by flags flag u) c n s ≡ s
  unfolding is_text content_by cell_text
  words_text Always h = absurd (false≢true h)
  words_text (ByFlag column) h = absurd (false≢true h)
  words_text Text h = refl

  -- a cell has its width
  switch_length : (b : Bool) → CellFits (cond b number_cell blank_cell) c n s → length (cell_text (cond b number_cell blank_cell) c n s) ≡ c.width
  unfolding cell_text
  switch_length true f = number-length c n f
  switch_length false f = length-replicate {A = ℕ} c.width 32

  cell-length : (u : Use) → CellFits (content_by flags flag u) c n s → (is_text u ≡ true → length s ≡ c.width)
      → length (cell_text (content_by flags flag u) c n s) ≡ c.width
  unfolding is_text content_by
  cell-length Always f h = switch_length true f
  cell-length (ByFlag column) f h = switch_length (entry flags flag column) f
  cell-length Text f h = rw (words_text Text refl) (h refl)

-- ---- blanks
three : (m a w : ℕ) → a + w ≤ m → m ≡ a + (w + (m - (a + w)))
three m a w h = omega arith

pub blank_part : (m a w : ℕ) → a + w ≤ m → take w (drop a (replicate {A = ℕ} m 32)) ≡ replicate w 32
blank_part m a w h =
    let parts : replicate {A = ℕ} m 32 ≡ replicate a 32 ++ (replicate w 32 ++ replicate (m - (a + w)) 32) =
    ap (λ (k : ℕ). replicate {A = ℕ} k 32) (three m a w h)
    ∙ sym (rw (replicate-append-replicate {A = ℕ} w (m - (a + w)) 32) (replicate-append-replicate {A = ℕ} a (w + (m - (a + w))) 32))
    in
    rw (parts, drop_at (replicate {A = ℕ} a 32) (replicate w 32 ++ replicate (m - (a + w)) 32) a (length-replicate {A = ℕ} a 32))
    (take_at (replicate {A = ℕ} w 32) _ w (length-replicate {A = ℕ} w 32))

blank_rest : (m w : ℕ) → w ≤ m → drop w (replicate {A = ℕ} m 32) ≡ replicate (m - w) 32
blank_rest m w h =
    let e : m ≡ w + (m - w) = omega arith in
    ap (λ (k : ℕ). drop w (replicate {A = ℕ} k 32)) e
    ∙ ap (drop w) (sym (replicate-append-replicate {A = ℕ} w (m - w) 32))
    ∙ drop_at (replicate {A = ℕ} w 32) (replicate (m - w) 32) w (length-replicate {A = ℕ} w 32)

-- a text behind others, in the first of the blanks
text_behind : (j x : List ℕ) (a m : ℕ) → length j ≡ a → length x ≤ m → put (j ++ replicate m 32) a x ≡ (j ++ x) ++ replicate (m - length x) 32
unfolding put
text_behind j x a m e h =
    let rest : drop (a + length x) (j ++ replicate m 32) ≡ replicate (m - length x) 32 =
    sym (drop-drop (length x) a (j ++ replicate m 32))
    ∙ ap (drop (length x)) (drop_at j (replicate m 32) a e)
    ∙ blank_rest m (length x) h
    in
    rw (take_at j (replicate m 32) a e, rest, append_assoc)

-- ---- a line

-- its first k columns with their bars
abbrev first_columns : TextForm → List ℕ → List ℕ → ℕ → List ℕ
first_columns t numbers words k = join_below (λ i. column_text t numbers words i ++ 124 ∷ []) k

-- its words lie within it
pub words_room : (cs : List Column) (k : ℕ) → k < length cs → holds_text cs k ≡ true → words_before cs k + column_width cs k ≤ line_words cs
unfolding words_before line_words sum_below
words_room cs k h e = rw e at (sum_grows (λ i. cond (holds_text cs i) (column_width cs i) 0) (suc k) (length cs) h)

module _ (t : TextForm) (numbers words : List ℕ) (there : length words ≡ line_words t.columns) (fits : RowFits t numbers words) where
  part_length : (k : ℕ) → k < length t.columns → holds_text t.columns k ≡ true → length (part_at t.columns words k) ≡ column_width t.columns k
  unfolding part_at
  part_length k h e = length-take-le _ _ (rw length-drop (omega (arith, words_room t.columns k h e)))

  pub text-length : (k : ℕ) → k < length t.columns → length (column_text t numbers words k) ≡ column_width t.columns k
  unfolding column_text content_at column_width holds_text
  text-length k h =
      cell-length t.flags (cell_at t.columns numbers t.flag_at) (column_at t.columns k) (cell_at t.columns numbers k) (part_at t.columns words k)
      (column_at t.columns k).used (fits k h) (part_length k h)

  columns_long : (k : ℕ) → k ≤ length t.columns → length (first_columns t numbers words k) ≡ column_start t.columns k
  unfolding join_below column_start sum_below
  columns_long zero h = refl
  columns_long (suc k) h =
      length-append (first_columns t numbers words k) (column_text t numbers words k ++ 124 ∷ [])
      ∙ omega (arith, columns_long k (omega arith), text-length k h, length-append (column_text t numbers words k) (124 ∷ []))

  pub line_first : replicate (line_pitch t.columns) 32 ≡ line_so_far t numbers words 0
  unfolding line_so_far join_below column_start sum_below
  line_first = ap (λ (m : ℕ). replicate {A = ℕ} m 32) (sym (sub-zero (line_pitch t.columns)))

  -- the next column's place is blank
  pub line_blank : (k : ℕ) → k < length t.columns → take (column_width t.columns k) (drop (column_start t.columns k) (line_so_far t numbers words k)) ≡ replicate (column_width t.columns k) 32
  unfolding line_so_far line_pitch
  line_blank k h =
      rw (drop_at _ (replicate {A = ℕ} (line_pitch t.columns - column_start t.columns k) 32) (column_start t.columns k) (columns_long k (omega arith)))
      (blank_part (line_pitch t.columns - column_start t.columns k) 0 (column_width t.columns k) (omega (arith, end_line t.columns k h)))

  pub line_next : (k : ℕ) → k < length t.columns → put (line_so_far t numbers words k) (column_start t.columns k) (column_text t numbers words k ++ 124 ∷ []) ≡ line_so_far t numbers words (suc k)
  unfolding line_so_far line_pitch join_below column_start sum_below
  line_next k h =
      let long : length (column_text t numbers words k ++ 124 ∷ []) ≡ column_width t.columns k + 1 =
      length-append (column_text t numbers words k) (124 ∷ []) ∙ omega (arith, text-length k h)
      in
      let gone : line_pitch t.columns - column_start t.columns k - length (column_text t numbers words k ++ 124 ∷ [])
      ≡ line_pitch t.columns - (column_start t.columns k + (column_width t.columns k + 1)) = omega arith
      in
      text_behind (first_columns t numbers words k) (column_text t numbers words k ++ 124 ∷ []) (column_start t.columns k)
      (line_pitch t.columns - column_start t.columns k) (columns_long k (omega arith)) (omega (arith, end_line t.columns k h))
      ∙ ap (λ (m : ℕ). first_columns t numbers words (suc k) ++ replicate m 32) gone

  pub line_last : put (line_so_far t numbers words (length t.columns)) (line_width t.columns) (13 ∷ 10 ∷ []) ≡ line_text (row_text t numbers words)
  unfolding line_so_far line_pitch line_text row_text line_width
  line_last =
      let two : column_start t.columns (length t.columns) + 2 - column_start t.columns (length t.columns) ≡ 2 = omega arith in
      rw two
      (text_behind (first_columns t numbers words (length t.columns)) (13 ∷ 10 ∷ []) (column_start t.columns (length t.columns)) 2
      (columns_long (length t.columns) (omega arith)) (omega arith)
      ∙ append-nil _)
