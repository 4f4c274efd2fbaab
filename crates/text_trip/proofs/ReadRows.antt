-- The lines of a text that passes: those of its head, its component lines one behind the other, and the line of the end.
use mathlib.Core.Path.{◌≡◌, refl, sym, ap, ap₂, ◌∙◌, subst}
use mathlib.Core.Bool.{Bool, true, and-eq-true_iff}
use mathlib.Core.List.{List, ◌++◌, append_assoc, append-nil}
use Prim.Native.Nat.{ℕ, zero, suc, ◌+◌, ◌<◌}
use native.Mathlib.Nat.{le_step, lt-suc_self}
use lib.Dec.{eqb}
use lib.ListN.{length, get_or, take, drop, take-append-drop, drop_of_length-le}
use lib.Seq.{drop-drop}
use borrow.Author.Tests.{eqb-true}
use Rattle.sequences.specs.Below.{sum_below, join_below}
use Rattle.sequences.proofs.Below.{all_at}
use Rattle.lines.specs.Lines.{line_len, ended, first_line, next_at, line_text, same}
use Rattle.lines.proofs.Laws.{first-length, line_bytes, ended_split, same_is}
use Rattle.text_rules.specs.declared.Column.{Column}
use Rattle.text_rules.specs.Tables.{TextForm}
use Rattle.text_rules.specs.Head.{end_word}
use Rattle.text_rules.specs.Columns.{column_width, column_start, line_width, line_pitch, is_row}
use Rattle.text_rules.specs.Reading.{start_of, line_of, line_stands, body_start, row_start, row_count, end_start, row_of}
use Rattle.text_trip.proofs.Below.{join-same, parts-take, sum_const}
use Rattle.text_trip.proofs.ReadTests.{Reads}

-- a line that stands has its end, and passes its test
pub stands : (test : List ℕ → Bool) (text : List ℕ) (at : ℕ) → line_stands test text at ≡ true
    → (ended (drop at text) ≡ true) × (test (line_of text at) ≡ true)
unfolding line_stands
stands test text at = (and-eq-true_iff (ended (drop at text)) (test (line_of text at))).0

-- the first n lines, where each has its end, and the rest
pub lines_join : (text : List ℕ) (n : ℕ) → ((k : ℕ) → k < n → ended (drop (start_of text k) text) ≡ true)
    → join_below (λ k. line_text (line_of text (start_of text k))) n ++ drop (start_of text n) text ≡ text
unfolding join_below start_of line_of next_at
lines_join text zero all = refl
lines_join text (suc n) all =
    let s = drop (start_of text n) text in
    append_assoc (join_below (λ k. line_text (line_of text (start_of text k))) n) (line_text (first_line s)) _
    ∙ ap (λ (r : List ℕ). join_below (λ k. line_text (line_of text (start_of text k))) n ++ r)
    (ap (λ (r : List ℕ). line_text (first_line s) ++ r) (sym (drop-drop (line_len s + 2) (start_of text n) text))
    ∙ sym (ended_split s (all n (lt-suc_self n))))
    ∙ lines_join text n (λ k h. all k (le_step h))

-- Component lines.
module _ (cs : List Column) where
  -- one has the width of a line, and a bar behind each column
  pub row_wide : (l : List ℕ) → is_row cs l ≡ true → length l ≡ line_width cs
  unfolding is_row
  row_wide l e = eqb-true _ _ ((and-eq-true_iff (eqb (length l) (line_width cs)) _).0 e).0

  pub row_bar : (l : List ℕ) → is_row cs l ≡ true → (k : ℕ) → k < length cs → get_or l (column_start cs k + column_width cs k) 0 ≡ 124
  unfolding is_row
  row_bar l e k h = eqb-true _ _ (all_at _ (length cs) ((and-eq-true_iff (eqb (length l) (line_width cs)) _).0 e).1 k h)

  -- the one at a place is the bytes from there on
  line_is_lem : (text : List ℕ) (at : ℕ) → is_row cs (line_of text at) ≡ true → line_len (drop at text) ≡ line_width cs
  unfolding line_of
  line_is_lem text at e = sym (first-length (drop at text)) ∙ row_wide _ e

  row_is : (text : List ℕ) (at : ℕ) → is_row cs (line_of text at) ≡ true → line_of text at ≡ take (line_width cs) (drop at text)
  unfolding line_of first_line
  row_is text at e = ap (λ (n : ℕ). take n (drop at text)) (line_is_lem text at e)

  -- and with its end as many as the pitch
  row_bytes : (text : List ℕ) (at : ℕ) → line_stands (is_row cs) text at ≡ true
      → take (line_pitch cs) (drop at text) ≡ line_text (take (line_width cs) (drop at text))
  unfolding line_of line_pitch
  row_bytes text at e =
      let p = stands (is_row cs) text at e in
      ap (λ (n : ℕ). take (n + 2) (drop at text)) (sym (line_is_lem text at p.1))
      ∙ line_bytes (drop at text) p.0
      ∙ ap line_text (row_is text at p.1)

module _ (t : TextForm) (text : List ℕ) (r : Reads t text) where
  pub row_stands : (j : ℕ) → j < row_count t text → is_row t.columns (row_of t text j) ≡ true
  unfolding row_of
  row_stands j h =
      let p = (stands (is_row t.columns) text (row_start t text j) (r.rows j h)).1 in
      subst (λ (l : List ℕ). is_row t.columns l ≡ true) (row_is t.columns text (row_start t text j) p) p

  -- the line of the end, with nothing behind it
  end_bytes : drop (end_start t text) text ≡ line_text end_word
  unfolding line_of next_at
  end_bytes =
      let s = drop (end_start t text) text in
      let p = stands (λ l. same l end_word) text (end_start t text) r.last in
      ended_split s p.0
      ∙ ap₂ (λ (l b : List ℕ). line_text l ++ b) (same_is _ _ p.1)
      (drop-drop (line_len s + 2) (end_start t text) text ∙ drop_of_length-le text r.ends)
      ∙ append-nil (line_text end_word)

  -- from the j-th component line on
  from_row : (j : ℕ) → drop (sum_below (λ _. line_pitch t.columns) j) (drop (body_start t text) text) ≡ drop (row_start t text j) text
  unfolding row_start
  from_row j =
      drop-drop (sum_below (λ _. line_pitch t.columns) j) (body_start t text) text
      ∙ ap (λ (n : ℕ). drop (body_start t text + n) text) (sum_const (line_pitch t.columns) j)

  -- the component lines and the line of the end
  pub rest_read : drop (body_start t text) text ≡ join_below (λ j. line_text (row_of t text j)) (row_count t text) ++ line_text end_word
  unfolding row_of end_start
  rest_read =
      let s = drop (body_start t text) text in
      sym (take-append-drop (sum_below (λ _. line_pitch t.columns) (row_count t text)) s)
      ∙ ap₂ ◌++◌
      (parts-take (λ _. line_pitch t.columns) (row_count t text) s
      ∙ join-same _ _ (row_count t text)
      (λ j h. ap (take (line_pitch t.columns)) (from_row j) ∙ row_bytes t.columns text (row_start t text j) (r.rows j h)))
      (from_row (row_count t text) ∙ end_bytes)
