-- The lines of the head written one behind the other.
use mathlib.Core.List.{List, [], ◌∷◌, ◌++◌, append_assoc}
use mathlib.Core.Path.{◌≡◌, refl, ap, ◌∙◌}
use Prim.Native.Nat.{ℕ, ◌+◌, ◌≤◌}
use native.Mathlib.Omega.{arith}
use lib.ListN.{length, length-append}
use Rattle.digits.proofs.Put.{put-length, written_then, written-length}
use Rattle.digits.specs.Digits.{number_text}
use Rattle.digits.specs.Written.{Written}
use Rattle.digits.specs.declared.Figure.{Figure}
use Rattle.lines.specs.Words.{bytes}
use Rattle.lines.specs.Lines.{line_text}
use Rattle.lines.proofs.Laws.{length-line_text}
use Rattle.text_rules.specs.declared.Field.{Field as LentField}
use Rattle.text_rules.specs.Tables.{Field, field_of}
use Rattle.text_rules.specs.Head.{opening_word, closing_word, tag_word, field_line, tag_size}
use Rattle.text_head_writing.specs.declared.Out.{Out}
use Rattle.text_head_writing.specs.Out.{Fits, wrote}
use Rattle.text_head_writing.specs.Lines.{whole_head}
use Rattle.text_head_writing.proofs.Sizes.{Reached, lines, line, head_more, head_grows, first_is, field_is, whole_is}

-- one text behind another
pub wrote_is : {xs : List ℕ} {o p : Out} → p ≡ wrote xs o → Written o.run.now o.at xs p.run.now p.at
wrote_is e = rw e (record { bytes = refl; next = refl })

pub fits_first : {xs : List ℕ} (ys : List ℕ) {o : Out} → Fits (xs ++ ys) o → Fits xs o
fits_first {xs} ys f = record { room = omega (arith, f.room, length-append xs ys) }

pub fits_as : {xs ys : List ℕ} {o : Out} → xs ≡ ys → Fits xs o → Fits ys o
fits_as e f = rw e at f

pub wrote_as : {xs ys : List ℕ} (o : Out) {p : Out} → xs ≡ ys → p ≡ wrote ys o → p ≡ wrote xs o
wrote_as o e w = rw e w

pub fits_next : (xs : List ℕ) {ys : List ℕ} {o p : Out} → p ≡ wrote xs o → Fits (xs ++ ys) o → Fits ys p
fits_next xs {ys} {o} e f =
    rw e (record { room = omega (arith, f.room, length-append xs ys, put-length o.run.now o.at xs (omega (arith, f.room, length-append xs ys))) })

pub wrote_then : (xs ys : List ℕ) {o p q : Out} → Fits (xs ++ ys) o → p ≡ wrote xs o → q ≡ wrote ys p → q ≡ wrote (xs ++ ys) o
wrote_then xs ys {o} f u v =
    let both = written_then (wrote_is {xs = xs} {o = o} refl) (wrote_is {xs = ys} {o = wrote xs o} refl) (omega (arith, f.room, length-append xs ys)) in
    rw (v, u, both.bytes, both.next)

-- the first line in its parts, and the line of a field
pub opening_parts : (letters : List ℕ) → line_text (opening_word ++ (letters ++ closing_word)) ≡ opening_word ++ (letters ++ line_text closing_word)
unfolding line_text
opening_parts letters = simp append_assoc

pub field_parts : (f : LentField) (z : Figure) → line_text (field_line (field_of f) z) ≡ f.name.now ++ ((61 ∷ []) ++ (number_text f.form z ++ bytes "\r\n"))
unfolding line_text field_line field_of
field_parts f z = simp append_assoc

-- what the search goes by there
pub ruleset line_laws = (fits_first, fits_next, fits_as, opening_parts, field_parts)

-- ---- the first k lines are written
module _ (fs : List Field) (letters : List ℕ) (figures : List Figure) (d : List ℕ) where
  pub record Lined (o : Out) (k : ℕ) : Type 0 where
    pub written : Written d 0 (lines fs letters figures k) o.run.now o.at
    pub long : length o.run.now ≡ length d

  module _ (room : length (whole_head fs letters figures) ≤ length d) where
    all_room : length (whole_head fs letters figures) ≡ length (lines fs letters figures (length fs + 1)) + tag_size
    all_room = ap length (whole_is fs letters figures) ∙ length-append (lines fs letters figures (length fs + 1)) (line_text tag_word) ∙ omega (arith, length-line_text tag_word)

    pub first_room : length (line_text (opening_word ++ (letters ++ closing_word))) ≤ length d
    first_room = omega (arith, all_room, head_grows fs letters figures (length fs + 1) 1 (omega arith), ap length (first_is fs letters figures))

    pub lined_start : {o p : Out} → o.run.now ≡ d → o.at ≡ 0 → p ≡ wrote (line_text (opening_word ++ (letters ++ closing_word))) o → Lined p 1
    lined_start e f g =
        let w = rw (e, f) at (wrote_is g) in
        record { written = rw (first_is fs letters figures) w; long = written-length w (omega (arith, first_room)) }

    module _ {o : Out} {i : ℕ} {f : Field} {z : Figure} (v : Lined o (i + 1)) (r : Reached fs figures i f z) where
      line_room : length (lines fs letters figures (i + 1)) + length (line_text (field_line f z)) ≤ length d
      line_room =
          omega (
            arith,
            all_room,
            r.low,
            head_grows fs letters figures (length fs + 1) (i + 1 + 1) (omega (arith, r.low)),
            ap length (head_more fs letters figures (i + 1)),
            length-append (lines fs letters figures (i + 1)) (line fs letters figures (i + 1)),
            ap length (field_is fs letters figures r),
          )

      pub lined_room : Fits (line_text (field_line f z)) o
      lined_room = record { room = omega (arith, line_room, v.written.next, v.long) }

      pub lined_again : {p : Out} → p ≡ wrote (line_text (field_line f z)) o → {j : ℕ} → j ≡ i + 1 → Lined p (j + 1)
      lined_again e next =
          let y = written_then v.written (wrote_is e) (omega (arith, line_room)) in
          rw next
          (record {
            written = rw (head_more fs letters figures (i + 1), field_is fs letters figures r) y;
            long = written-length y (rw length-append (omega (arith, line_room)));
          })

    module _ {o : Out} {k : ℕ} (v : Lined o (k + 1)) (e : k ≡ length fs) where
      last : Lined o (length fs + 1)
      last = rw e at v

      pub tag_room : Fits (line_text tag_word) o
      tag_room = record { room = omega (arith, all_room, last.written.next, v.long, length-line_text tag_word) }

      pub lined_end : {p : Out} → p ≡ wrote (line_text tag_word) o → Written d 0 (whole_head fs letters figures) p.run.now p.at
      lined_end w = rw (whole_is fs letters figures) (written_then last.written (wrote_is w) (omega (arith, all_room, length-line_text tag_word)))
