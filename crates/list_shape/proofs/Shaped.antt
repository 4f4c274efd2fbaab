-- What is found of a text: a line of the head that is wrong, what stands behind the head, or the component lines.
use Prim.Native.Nat.{ℕ, ◌+◌, ◌*◌, ◌≤◌, ◌<◌}
use mathlib.Core.Path.{◌≡◌, refl, sym, ap, ◌∙◌}
use mathlib.Core.Bool.{Bool, true, false, cond, not, ◌&&◌, false≢true}
use mathlib.Core.List.{List}
use native.Mathlib.Omega.{arith}
use native.Mathlib.Nat.{le_antisymm}
use lib.ListN.{length, drop}
use borrow.Author.Tests.{ltb-false, lt-ltb, le-ltb}
use Rattle.std.proofs.Common.{Ok, Err}
use Rattle.sequences.specs.Checks.{reply}
use Rattle.sequences.proofs.Below.{first-le}
use Rattle.lines.specs.Lines.{line_len, first_line, ended, next_at, same}
use Rattle.lines.proofs.Laws.{same_is, first-length}
use Rattle.text_rules.specs.declared.Column.{Column}
use Rattle.text_rules.specs.Columns.{line_pitch}
use Rattle.text_rules.specs.Head.{end_word, head_lines, end_size}
use Rattle.text_rules.specs.Reading.{start_of, line_of, line_stands, wrong_line, body_start, rows_from, row_start, row_count, end_start}
use Rattle.text_head.specs.declared.WrongLine.{WrongLine}
use Rattle.text_head.specs.Head.{shape_found}
use Rattle.list_rules.specs.Shanghai.{shanghai_shape, shanghai_fields, shanghai_columns}
use Rattle.list_shape.specs.Shape.{LineWrong, RowsStand}
use Rattle.list_shape.proofs.Checks.{line_wrong, end_missing, shape_passes, line_stops, end_stops, more_stops}

-- ---- the head: its first wrong line
abbrev stops : List ℕ → WrongLine
stops text = record { line = wrong_line shanghai_fields text; place = start_of text (wrong_line shanghai_fields text) }

module _ (text : List ℕ) where
  -- a wrong line of the head
  pub head_off : (p : WrongLine) → shape_found shanghai_fields text ≡ Err p → LineWrong text p.place
  unfolding shape_found
  head_off p f = case (line_wrong text) refl f
    where
      case : (b : Bool) → line_wrong text ≡ b → cond b (Err (stops text)) (Ok (start_of text (head_lines shanghai_fields))) ≡ Err p
          → LineWrong text p.place
      case true w g =
          let same : stops text ≡ p = cc in
          let s = line_stops text w in
          record { line_stops = s.0; place_is = s.1 ∙ ap (λ (w : WrongLine). reply 18 w.place 0) same }
      case false w g = absurd (cc)

  -- every line of the head stands
  pub head_on : (p : ℕ) → shape_found shanghai_fields text ≡ Ok p → (wrong_line shanghai_fields text ≡ head_lines shanghai_fields) × (p ≡ body_start shanghai_shape text)
  unfolding shape_found wrong_line body_start
  head_on p f = case (line_wrong text) refl f
    where
      case : (b : Bool) → line_wrong text ≡ b → cond b (Err (stops text)) (Ok (start_of text (head_lines shanghai_fields))) ≡ Ok p
          → (wrong_line shanghai_fields text ≡ head_lines shanghai_fields) × (p ≡ start_of text (head_lines shanghai_fields))
      case true w g = absurd (cc)
      case false w g =
          let same : start_of text (head_lines shanghai_fields) ≡ p = cc in
          (le_antisymm (first-le _ (head_lines shanghai_fields)) (ltb-false _ _ w), sym same)

head_passes : (text : List ℕ) → wrong_line shanghai_fields text ≡ head_lines shanghai_fields → line_wrong text ≡ false
head_passes text e = rw e (le-ltb (head_lines shanghai_fields) (head_lines shanghai_fields) (omega arith))

-- ENDENDEND has nine bytes
end_next : (text : List ℕ) (at : ℕ) → line_stands (λ l. same l end_word) text at ≡ true → next_at text at ≡ at + end_size
unfolding line_stands line_of next_at
end_next text at h =
    let s : same (first_line (drop at text)) end_word ≡ true = and_right (ended (drop at text)) _ h in
    let l : line_len (drop at text) ≡ 9 = sym (first-length (drop at text)) ∙ ap length (same_is _ _ s) in
    rw l
  where
    and_right : (a b : Bool) → (a && b) ≡ true → b ≡ true
    and_right true b e = e
    and_right false b e = absurd (false≢true e)

-- ---- behind the head, where its lines stand: what the code goes by
pub record Body (text : List ℕ) (columns : List Column) (start count pitch : ℕ) : Type 0 where
  pub head : wrong_line shanghai_fields text ≡ head_lines shanghai_fields
  pub columns_are : columns ≡ shanghai_columns
  pub start_is : start ≡ body_start shanghai_shape text
  pub count_is : count ≡ row_count shanghai_shape text
  pub end_is : start + count * pitch ≡ end_start shanghai_shape text

pub body : {text : List ℕ} {columns : List Column} {start count pitch : ℕ} → wrong_line shanghai_fields text ≡ head_lines shanghai_fields
    → columns ≡ shanghai_columns → start ≡ body_start shanghai_shape text → count ≡ rows_from columns text start → pitch ≡ line_pitch columns
    → Body text columns start count pitch
unfolding end_start row_start row_count
body h ours s c p = record { head = h; columns_are = ours; start_is = s; count_is = rw (c, ours, s); end_is = rw (p, c, ours, s) }

module _ {text : List ℕ} {columns : List Column} {start count pitch : ℕ} (v : Body text columns start count pitch) where
  -- another line than ENDENDEND
  pub shaped_end : line_stands (λ l. same l end_word) text (start + count * pitch) ≡ false → LineWrong text (start + count * pitch)
  shaped_end h =
      let q = end_stops text (head_passes text v.head) (rw v.end_is at (ap not h)) in
      record { line_stops = q.0; place_is = q.1 ∙ rw v.end_is }

  module _ (h : line_stands (λ l. same l end_word) text (start + count * pitch) ≡ true) where
    ends : end_missing text ≡ false
    ends = rw v.end_is at (ap not h)

    next_is : next_at text (end_start shanghai_shape text) ≡ start + count * pitch + end_size
    next_is = rw (← v.end_is) (end_next text (start + count * pitch) h)

    -- bytes behind it
    pub shaped_behind : start + count * pitch + end_size < length text → LineWrong text (start + count * pitch + end_size)
    shaped_behind l =
        let q = more_stops text (head_passes text v.head) ends (rw next_is (lt-ltb (start + count * pitch + end_size) (length text) l)) in
        record { line_stops = q.0; place_is = q.1 ∙ rw next_is }

    -- every line stands
    pub shaped_rows : start + count * line_pitch columns ≤ length text → length text ≤ start + count * pitch + end_size
        → RowsStand text (record { start = start; count = count })
    shaped_rows room l =
        record {
          head_stands = v.head;
          start_is = v.start_is;
          count_is = v.count_is;
          room = rw v.columns_are at room;
          lines_stand = shape_passes text (head_passes text v.head) ends (rw next_is (le-ltb (start + count * pitch + end_size) (length text) l));
        }
