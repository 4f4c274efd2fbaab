-- The head in the text of a sheet that fits: its lines stand where reading looks for them, and say the figures.
use mathlib.Core.Path.{◌≡◌, ap, ap₂, ◌∙◌}
use mathlib.Core.Bool.{Bool, true, cond, not, ◌&&◌}
use mathlib.Core.List.{List, [], ◌++◌}
use Prim.Native.Nat.{ℕ, suc, ◌+◌, ◌<◌}
use native.Mathlib.Nat.{le_refl}
use lib.ListN.{length, drop}
use lib.Seq.{drop-append_seam}
use Rattle.sequences.proofs.Below.{first_end}
use Rattle.digits.specs.declared.Figure.{Figure}
use Rattle.digits.specs.Digits.{is_number, figure_of, number_text}
use Rattle.digits.proofs.Trip.{number_read, figure_read_lem}
use Rattle.lines.specs.Lines.{line_text}
use Rattle.lines.proofs.Laws.{no_cr}
use Rattle.text_rules.specs.Tables.{TextForm, field_at}
use Rattle.text_rules.specs.Head.{head_lines, field_name, is_kind, is_field, letters_of, end_word, is_head_line, head_line}
use Rattle.text_rules.specs.Reading.{start_of, line_of, line_stands, wrong_line, body_start, word_of, figure_read, wrong_field, letters_read}
use Rattle.text_rules.specs.Writing.{Sheet, head_text, rows_text, sheet_text}
use Rattle.text_rules.proofs.Well.{WellForm}
use Rattle.text_trip.specs.Trips.{SheetFits}
use Rattle.text_trip.proofs.WrittenLines.{lines_of, start_lines, line_at, stands_at}
use Rattle.text_trip.proofs.WrittenHead.{first_place, field_place, head-no_cr, head_is, head_value, head_letters}

module _ (t : TextForm) (s : Sheet) where
  -- line k of the head, and what stands behind the head
  abbrev head_of : ℕ → List ℕ
  head_of k = head_line t.fields s.letters s.figure k

  abbrev pub behind : List ℕ
  behind = rows_text t s.run s.texts s.count ++ line_text end_word

module _ (t : TextForm) (s : Sheet) (well : WellForm t) (fits : SheetFits t s) where
  no_cr-head : (k : ℕ) → k < head_lines t.fields → no_cr (head_of t s k) ≡ true
  no_cr-head = head-no_cr t.fields s.letters s.figure well.fields fits.letters

  -- line k is the one written, and the one to stand there
  head_line_lem : (k : ℕ) → k < head_lines t.fields → line_of (sheet_text t s) (start_of (sheet_text t s) k) ≡ head_of t s k
  unfolding sheet_text head_text
  head_line_lem k h = line_at (head_of t s) (head_lines t.fields) (behind t s) no_cr-head k h

  head_stands : (k : ℕ) → k < head_lines t.fields
      → line_stands (is_head_line t.fields k) (sheet_text t s) (start_of (sheet_text t s) k) ≡ true
  unfolding sheet_text head_text
  head_stands k h =
      stands_at (head_of t s) (head_lines t.fields) (behind t s) no_cr-head (is_head_line t.fields k) k h
      ∙ head_is t.fields s.letters s.figure fits.letters k h

  -- no line of the head is at fault
  pub no_line : wrong_line t.fields (sheet_text t s) ≡ head_lines t.fields
  unfolding wrong_line
  no_line = first_end _ (head_lines t.fields) (λ k h. ap not (head_stands k h))

  -- the letters are the ones written
  pub letters_there : letters_read (sheet_text t s) ≡ s.letters
  unfolding letters_read start_of is_head_line
  letters_there =
      ap₂ (λ (b : Bool) (l : List ℕ). cond b (letters_of l) []) (head_stands 0 (first_place t.fields)) (head_line_lem 0 (first_place t.fields))
      ∙ head_letters t.fields s.letters s.figure

  -- the characters of field k are the ones written
  word_there : (k : ℕ) → k < length t.fields → word_of t.fields (sheet_text t s) k ≡ number_text (field_at t.fields k).form (s.figure k)
  unfolding word_of
  word_there k h =
      ap (drop (length (field_name t.fields k) + 1)) (head_line_lem (suc k) (field_place t.fields k h))
      ∙ head_value t.fields s.letters s.figure k h

  -- the figures are those of the sheet
  pub figure_there : (k : ℕ) → k < length t.fields → figure_read t.fields (sheet_text t s) k ≡ s.figure k
  unfolding figure_read
  figure_there k h =
      ap (figure_of (field_at t.fields k).form) (word_there k h)
      ∙ figure_read_lem (field_at t.fields k).form (s.figure k) (fits.figures k h)

  field_there : (k : ℕ) → k < length t.fields → is_field (field_at t.fields k) (word_of t.fields (sheet_text t s) k) ≡ true
  unfolding is_field figure_read
  field_there k h =
      ap₂ (λ (a b : Bool). a && b)
      (ap (is_number (field_at t.fields k).form) (word_there k h)
      ∙ number_read (field_at t.fields k).form (s.figure k) (fits.figures k h))
      (ap (λ (z : Figure). is_kind (field_at t.fields k).kind z.size) (figure_there k h) ∙ fits.kinds k h)

  -- no field is at fault
  pub no_field : wrong_field t.fields (sheet_text t s) ≡ length t.fields
  unfolding wrong_field
  no_field = first_end _ (length t.fields) (λ k h. ap not (field_there k h))

  -- behind the head stand the component lines and the last line
  pub behind_head : drop (body_start t (sheet_text t s)) (sheet_text t s) ≡ behind t s
  unfolding body_start sheet_text head_text
  behind_head =
      ap (λ (at : ℕ). drop at (sheet_text t s)) (start_lines (head_of t s) (head_lines t.fields) (behind t s) no_cr-head (head_lines t.fields) (le_refl _))
      ∙ drop-append_seam (lines_of (head_of t s) (head_lines t.fields)) (behind t s)
