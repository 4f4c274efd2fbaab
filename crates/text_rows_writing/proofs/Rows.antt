-- All lines so far: a column that is written into each line leaves every line with one column more.
use mathlib.Core.Path.{◌≡◌, refl, sym, ap, ◌∙◌, subst}
use mathlib.Core.Bool.{Bool, true, false, cond}
use mathlib.Core.List.{List, [], ◌∷◌, ◌++◌}
use Prim.Native.Nat.{ℕ, suc, ◌+◌, ◌-◌, ◌*◌, ◌≤◌, ◌<◌}
use native.Mathlib.Nat.{add-sub_cancel_left}
use native.Mathlib.Numerals.{add-one}
use native.Mathlib.Omega.{arith}
use lib.ListN.{length, get_or, take, drop, replicate, length-append, length-drop, length-replicate}
use lib.Seq.{length-take-le}
use Rattle.sequences.specs.Below.{sum_below}
use Rattle.sequences.specs.Stretch.{stretch_of}
use Rattle.sequences.proofs.Below.{sum_grows}
use Rattle.sequences.proofs.Stretch.{within, stretch-length, stretch_at, join_ext}
use Rattle.flags.specs.Table.{FlagTable}
use Rattle.digits.specs.Digits.{plain}
use Rattle.digits.specs.Fits.{Fits}
use Rattle.text_rules.specs.declared.Column.{Column}
use Rattle.text_rules.specs.Tables.{TextForm, column_at}
use Rattle.text_rules.specs.Columns.{column_width, column_start, line_width, line_pitch, is_text, holds_text, numbers_before, words_before, line_numbers, line_words}
use Rattle.text_rules.specs.Columns.{number_form, used_by, cell_at, part_at, content_at, column_text}
use Rattle.text_rules.specs.Writing.{numbers_at, words_at, rows_text}
use Rattle.text_rules.specs.Well.{flag_well}
use Rattle.text_rules.proofs.Tables.{end_line}
use Rattle.text_rules.proofs.Well.{flag_facts}
use Rattle.text_cells_writing.specs.Cells.{used_text}
use Rattle.text_cells_writing.proofs.Cells.{used-length}
use Rattle.text_rows_writing.specs.Lines.{number_at, word_at, lines_put, BlankAt, NumbersFit, RowsReady, RowsSoFar}
use Rattle.text_rows_writing.proofs.Stretches.{part_stretch, lines_same, lines_long, lines_here}
use Rattle.text_rows_writing.proofs.Columns.{used_text_lem, used_fits, words_text, blank_part, words_room, text-length, line_first, line_blank, line_next, line_last}

-- the number of a column that holds one stands within those of the line
number_inside : (cs : List Column) (k : ℕ) → k < length cs → holds_text cs k ≡ false → numbers_before cs k < line_numbers cs
unfolding numbers_before line_numbers sum_below
number_inside cs k h e =
    let more = rw e at (sum_grows (λ i. cond (holds_text cs i) 0 1) (suc k) (length cs) h) in
    omega arith

-- ---- a number column in a line i, from the line's piece x of the run
module _ (flags : FlagTable) (c : Column) (run : List ℕ) (stride flagPlace place : ℕ) where
  module _ (i : ℕ) {x : List ℕ} (piece : x ≡ take stride (drop (i * stride) run)) (flag : flagPlace < stride) (there : place < stride)
      {used : Bool} (told : used ≡ used_by flags (get_or x flagPlace 0) c.used) where
    piece_at : (k : ℕ) → k < stride → get_or x k 0 ≡ get_or run (i * stride + k) 0
    unfolding stretch_of
    piece_at k h = ap (λ (l : List ℕ). get_or l k 0) piece ∙ stretch_at stride run i k h

    told_run : used ≡ used_by flags (get_or run (i * stride + flagPlace) 0) c.used
    told_run = told ∙ ap (λ (n : ℕ). used_by flags n c.used) (piece_at flagPlace flag)

    pub number_here : used_text used c (get_or x place 0) ≡ number_at flags c run stride flagPlace place i
    unfolding number_at
    number_here = rw (piece_at place there, told_run) refl

    pub number_fits : {count : ℕ} → NumbersFit flags c run stride flagPlace place count → i < count → used ≡ true → Fits (number_form c) (plain (get_or x place 0))
    number_fits fit h u = rw (piece_at place there) (fit i h (sym told_run ∙ u))

  -- what is written into a line ends in it
  pub numbers_held : (at w count : ℕ) → at + c.width < w → NumbersFit flags c run stride flagPlace place count
      → (i : ℕ) → i < count → at + length (number_at flags c run stride flagPlace place i) ≤ w
  unfolding number_at
  numbers_held at w count room fit i h = omega (arith, used-length c _ _ (fit i h))

-- ---- words, from the line's piece x of the texts
pub part_long : (q k : ℕ) (s : List ℕ) → q + k ≤ length s → length (take (q + k - q) (drop q s)) ≡ k
part_long q k s h = rw (add-sub_cancel_left q k) (length-take-le k (drop q s) (rw length-drop (omega arith)))

module _ (width : ℕ) (texts : List ℕ) (stride place : ℕ) where
  pub word_here : (i : ℕ) {x : List ℕ} → x ≡ take stride (drop (i * stride) texts) → place + width ≤ stride
      → take (place + width - place) (drop place x) ++ 124 ∷ [] ≡ word_at width texts stride place i
  unfolding word_at stretch_of
  word_here i e h =
      rw (add-sub_cancel_left place width)
      (ap (λ (s : List ℕ). s ++ 124 ∷ []) (ap (λ (s : List ℕ). take width (drop place s)) e ∙ sym (part_stretch stride texts i place width h)))

  pub words_held : (at w count : ℕ) → length texts ≡ count * stride → place + width ≤ stride → at + width < w
      → (i : ℕ) → i < count → at + length (word_at width texts stride place i) ≤ w
  unfolding word_at
  words_held at w count long inside room i h =
      let end : i * stride + place + width ≤ length texts = rw long (omega (arith, within stride i count h)) in
      let few : length (take width (drop (i * stride + place) texts)) ≡ width = length-take-le width (drop (i * stride + place) texts) (rw length-drop (omega arith)) in
      omega (arith, length-append (take width (drop (i * stride + place) texts)) (124 ∷ []))

pub rows_all : {t : TextForm} {run texts : List ℕ} {count k n : ℕ} {b : List ℕ} → k ≡ n → RowsSoFar t run texts count k b → RowsSoFar t run texts count n b
rows_all {t} {run} {texts} {count} {k} {n} {b} e v = subst (λ (i : ℕ). RowsSoFar t run texts count i b) e v

module _ (t : TextForm) (run texts : List ℕ) (count : ℕ) (ready : RowsReady t run texts count) where
  words_there : (i : ℕ) → i < count → length (words_at t texts i) ≡ line_words t.columns
  unfolding words_at
  words_there i h = stretch-length (line_words t.columns) texts i (rw ready.words (within (line_words t.columns) i count h))

  -- ---- start, turn and end
  pub rows_start : {b : List ℕ} → b ≡ replicate (count * line_pitch t.columns) 32 → RowsSoFar t run texts count 0 b
  unfolding stretch_of
  rows_start {b} e =
      let w : ℕ = line_pitch t.columns in
      record {
        long = rw e (length-replicate {A = ℕ} (count * w) 32);
        lines =
            λ i h.
            rw e (blank_part (count * w) (i * w) w (within w i count h))
            ∙ line_first t (numbers_at t run i) (words_at t texts i) (words_there i h) (ready.fits i h);
      }

  module _ (k : ℕ) (inside : k < length t.columns) {b : List ℕ} (v : RowsSoFar t run texts count k b) where
    pub rows_blank : BlankAt (line_pitch t.columns) (column_start t.columns k) (column_width t.columns k) count b
    rows_blank i h =
        rw (v.lines i h) (line_blank t (numbers_at t run i) (words_at t texts i) (words_there i h) (ready.fits i h) k inside)

    -- the text of column k with its bar, in line i
    barred : ℕ → List ℕ
    barred i = column_text t (numbers_at t run i) (words_at t texts i) k ++ 124 ∷ []

    barred_room : (i : ℕ) → i < count → column_start t.columns k + length (barred i) ≤ line_pitch t.columns
    unfolding line_pitch barred
    barred_room i h =
        rw (length-append (column_text t (numbers_at t run i) (words_at t texts i) k) (124 ∷ []))
        (omega (
          arith,
          end_line t.columns k inside,
          text-length t (numbers_at t run i) (words_at t texts i) (words_there i h) (ready.fits i h) k inside,
        ))

    rows_next : {b' : List ℕ} → b' ≡ lines_put (line_pitch t.columns) (column_start t.columns k) barred count b → RowsSoFar t run texts count (k + 1) b'
    unfolding barred
    rows_next e =
        let w : ℕ = line_pitch t.columns in
        let at : ℕ = column_start t.columns k in
        record {
          long = rw e (lines_long w at barred b count v.long barred_room count (omega arith)) ∙ v.long;
          lines =
              λ i h.
              rw (e, add-one k)
              (lines_here w at barred b count v.long barred_room count i (omega arith) h
              ∙ rw (v.lines i h) (line_next t (numbers_at t run i) (words_at t texts i) (words_there i h) (ready.fits i h) k inside));
        }

    -- words
    pub word_room : holds_text t.columns k ≡ true → words_before t.columns k + column_width t.columns k ≤ line_words t.columns
    word_room e = words_room t.columns k inside e

    pub words_next : holds_text t.columns k ≡ true → {b' : List ℕ}
        → b' ≡ lines_put (line_pitch t.columns) (column_start t.columns k) (word_at (column_width t.columns k) texts (line_words t.columns) (words_before t.columns k)) count b
        → RowsSoFar t run texts count (k + 1) b'
    unfolding word_at barred column_text content_at holds_text part_at words_at
    words_next e h =
        rows_next
        (h
        ∙ lines_same _ _ _ _ count b
        (λ i l.
        ap (λ (s : List ℕ). s ++ 124 ∷ [])
        (part_stretch (line_words t.columns) texts i (words_before t.columns k) (column_width t.columns k) (word_room e)
        ∙ sym (words_text t.flags _ (column_at t.columns k) _ _ (column_at t.columns k).used e))))

    -- numbers
    module _ (flag : flag_well t.columns t.flag_at ≡ true) (e : holds_text t.columns k ≡ false) where
      pub number_room : numbers_before t.columns k < line_numbers t.columns
      number_room = number_inside t.columns k inside e

      pub flag_room : numbers_before t.columns t.flag_at < line_numbers t.columns
      unfolding holds_text is_text
      flag_room = let f = flag_facts t.columns t.flag_at flag in number_inside t.columns t.flag_at f.there (rw f.always)

      number_is : (i : ℕ) → get_or run (i * line_numbers t.columns + numbers_before t.columns k) 0 ≡ cell_at t.columns (numbers_at t run i) k
      unfolding cell_at numbers_at
      number_is i = sym (stretch_at (line_numbers t.columns) run i (numbers_before t.columns k) number_room)

      flag_is : (i : ℕ) → get_or run (i * line_numbers t.columns + numbers_before t.columns t.flag_at) 0 ≡ cell_at t.columns (numbers_at t run i) t.flag_at
      unfolding cell_at numbers_at
      flag_is i = sym (stretch_at (line_numbers t.columns) run i (numbers_before t.columns t.flag_at) flag_room)

      pub numbers_fit : NumbersFit t.flags (column_at t.columns k) run (line_numbers t.columns) (numbers_before t.columns t.flag_at) (numbers_before t.columns k) count
      unfolding content_at holds_text
      numbers_fit i h u =
          rw (number_is i)
          (used_fits t.flags (cell_at t.columns (numbers_at t run i) t.flag_at) (column_at t.columns k) _ (part_at t.columns (words_at t texts i) k)
          (column_at t.columns k).used e (rw (flag_is i) at u) (ready.fits i h k inside))

      pub numbers_next : {b' : List ℕ}
          → b' ≡ lines_put (line_pitch t.columns) (column_start t.columns k)
          (number_at t.flags (column_at t.columns k) run (line_numbers t.columns) (numbers_before t.columns t.flag_at) (numbers_before t.columns k)) count b
          → RowsSoFar t run texts count (k + 1) b'
      unfolding number_at barred column_text content_at holds_text
      numbers_next h =
          rows_next
          (h
          ∙ lines_same _ _ _ _ count b
          (λ i l. rw (number_is i, flag_is i) (used_text_lem t.flags _ (column_at t.columns k) _ _ (column_at t.columns k).used e)))

  pub rows_end : {b b' : List ℕ} → RowsSoFar t run texts count (length t.columns) b
      → b' ≡ lines_put (line_pitch t.columns) (line_width t.columns) (λ _. 13 ∷ 10 ∷ []) count b → b' ≡ rows_text t run texts count
  unfolding rows_text line_pitch
  rows_end {b} {b'} v e =
      let w : ℕ = line_width t.columns + 2 in
      let room : (i : ℕ) → i < count → line_width t.columns + length {A = ℕ} (13 ∷ 10 ∷ []) ≤ line_width t.columns + 2 = λ i h. omega arith in
      join_ext _ count w b'
      (rw e (lines_long w (line_width t.columns) (λ _. 13 ∷ 10 ∷ []) b count v.long room count (omega arith)) ∙ v.long)
      (λ i h.
      rw e
      (lines_here w (line_width t.columns) (λ _. 13 ∷ 10 ∷ []) b count v.long room count i (omega arith) h
      ∙ rw (v.lines i h) (line_last t (numbers_at t run i) (words_at t texts i) (words_there i h) (ready.fits i h))))
