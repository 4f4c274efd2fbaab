-- A component line that is read, written again: its columns, each with its bar.
use Rattle.std.proofs.lemmas.Grind.{common_steps}
use mathlib.Core.Path.{◌≡◌, sym, ap, ap₂, ◌∙◌, subst}
use mathlib.Core.Bool.{true, false}
use mathlib.Core.List.{List, [], ◌∷◌, ◌++◌}
use Prim.Native.Nat.{ℕ, ◌+◌, ◌<◌}
use native.Mathlib.Nat.{le_of_eq}
use native.Mathlib.Numerals.{add-one}
use native.Mathlib.Omega.{arith}
use lib.ListN.{length, get_or, take, drop, length-drop}
use lib.Seq.{take_all, take-suc, get_or-drop}
use borrow.Author.Tests.{not-false}
use Rattle.sequences.specs.Below.{join_below}
use Rattle.sequences.proofs.Below.{first_all}
use Rattle.digits.specs.declared.Form.{Form}
use Rattle.digits.specs.Digits.{is_number, figure_of}
use Rattle.lines.specs.Lines.{name_byte, all_bytes}
use Rattle.text_rules.specs.Tables.{TextForm, column_at}
use Rattle.text_rules.specs.Columns.{column_width, column_start, line_width, holds_text, line_numbers, line_words, Content}
use Rattle.text_rules.specs.Columns.{number_cell, is_cell, cell_of, cell_text, is_row, part_of, flag_of}
use Rattle.text_rules.specs.Columns.{content_of, wrong_cell, column_fault, cell_read, numbers_read, words_read, cell_at, part_at, content_at, column_text, row_text}
use Rattle.text_rules.proofs.Tables.{end_line}
use Rattle.text_rules.proofs.Well.{WellForm, column_well_lem}
use Rattle.text_trip.proofs.Below.{join-same, parts-take}
use Rattle.text_trip.proofs.Cells.{numbers-length, number_at, words-length, words_at_lem}
use Rattle.text_trip.proofs.Flag.{Holds, content_holds, one_digit, digit_figure, flag_well_lem, flag_form, flag_content, flag_number}
use Rattle.text_trip.proofs.ReadCells.{cell_bytes, cell_again}
use Rattle.text_trip.proofs.ReadRows.{row_wide, row_bar}

-- the numbers of a line are as many as its columns have
pub read_numbers : (t : TextForm) (l : List ℕ) → length (numbers_read t l) ≡ line_numbers t.columns
unfolding numbers_read
read_numbers t l = numbers-length t.columns (cell_read t l)

module _ (t : TextForm) (l : List ℕ) (row : is_row t.columns l ≡ true) where
  -- a column has its width, and its bar behind it
  part_length : (k : ℕ) → k < length t.columns → length (part_of t.columns k l) ≡ column_width t.columns k
  unfolding part_of
  part_length k h = grind (arith, common_steps, row_wide, end_line)

  part_bar : (k : ℕ) → k < length t.columns
      → take (column_width t.columns k + 1) (drop (column_start t.columns k) l) ≡ part_of t.columns k l ++ 124 ∷ []
  unfolding part_of
  part_bar k h =
      let start = column_start t.columns k in
      let width = column_width t.columns k in
      ap (λ (n : ℕ). take n (drop start l)) (add-one width)
      ∙ take-suc (drop start l) width 0 (omega (arith, row_wide t.columns l row, end_line t.columns k h, length-drop start l))
      ∙ ap (λ (x : ℕ). take width (drop start l) ++ x ∷ []) (get_or-drop start l width 0 ∙ row_bar t.columns l row k h)

  -- a component line is its columns, each with its bar
  row_parts : join_below (λ k. part_of t.columns k l ++ 124 ∷ []) (length t.columns) ≡ l
  unfolding column_start line_width
  row_parts =
      join-same _ _ (length t.columns) (λ k h. sym (part_bar k h))
      ∙ sym (parts-take (λ k. column_width t.columns k + 1) (length t.columns) l)
      ∙ take_all (line_width t.columns) l (le_of_eq (row_wide t.columns l row))

  -- the words of a line are as many as its columns have, and a column's words its bytes
  pub read_words : length (words_read t l) ≡ line_words t.columns
  unfolding words_read
  read_words = words-length t.columns (λ k. part_of t.columns k l) (λ k h _. part_length k h)

  words_are : (k : ℕ) → k < length t.columns → holds_text t.columns k ≡ true → part_at t.columns (words_read t l) k ≡ part_of t.columns k l
  unfolding words_read
  words_are = words_at_lem t.columns (λ k. part_of t.columns k l) (λ k h _. part_length k h)

  -- With no column at fault.
  module _ (well : WellForm t) (fine : column_fault t l ≡ length t.columns) where
    column_fine : (k : ℕ) → k < length t.columns → is_cell (content_of t l k) (column_at t.columns k) (part_of t.columns k l) ≡ true
    unfolding column_fault wrong_cell
    column_fine k h = not-false _ (first_all (wrong_cell t l) (length t.columns) fine k h)

    holds : (k : ℕ) → Holds (content_of t l k) (holds_text t.columns k)
    unfolding content_of holds_text
    holds k = content_holds t.flags (flag_of t l) (column_at t.columns k).used

    -- words are bytes of names
    pub words_fine : (k : ℕ) → k < length t.columns → holds_text t.columns k ≡ true
        → all_bytes name_byte (part_at t.columns (words_read t l) k) ≡ true
    words_fine k h e =
        ap (all_bytes name_byte) (words_are k h e)
        ∙ cell_bytes (column_at t.columns k) (part_of t.columns k l) (content_of t l k) (subst (Holds (content_of t l k)) e (holds k)) (column_fine k h)

    -- the flag's column says the flag
    flag_cell : content_of t l t.flag_at ≡ number_cell
    unfolding content_of
    flag_cell = flag_content t well (flag_of t l)

    flag_part_lem : part_of t.columns t.flag_at l ≡ get_or l (column_start t.columns t.flag_at) 0 ∷ []
    unfolding part_of column_width
    flag_part_lem = grind (arith, common_steps, flag_well_lem, row_wide, end_line)

    flag_said : cell_read t l t.flag_at ≡ flag_of t l
    unfolding cell_read cell_of is_cell flag_of
    flag_said =
        let c = column_at t.columns t.flag_at in
        let byte = get_or l (column_start t.columns t.flag_at) 0 in
        let number : is_number one_digit (byte ∷ []) ≡ true =
        ap₂ is_number (sym (flag_form t well)) (sym flag_part_lem)
        ∙ sym (ap (λ (x : Content). is_cell x c (part_of t.columns t.flag_at l)) flag_cell)
        ∙ column_fine t.flag_at (flag_well_lem t well).there in
        ap (λ (x : Content). cell_of x c (part_of t.columns t.flag_at l)) flag_cell
        ∙ ap₂ (λ (f : Form) (s : List ℕ). (figure_of f s).size) (flag_form t well) flag_part_lem
        ∙ digit_figure byte number

    -- so what the columns have is the same by the numbers that were read
    cell_is : (k : ℕ) → k < length t.columns → holds_text t.columns k ≡ false → cell_at t.columns (numbers_read t l) k ≡ cell_read t l k
    unfolding numbers_read
    cell_is = number_at t.columns (cell_read t l)

    content_same : (k : ℕ) → content_at t (numbers_read t l) k ≡ content_of t l k
    unfolding content_at content_of
    content_same k = grind (arith, common_steps, cell_is, flag_well_lem, flag_number, flag_said)

    column_again : (k : ℕ) → k < length t.columns → column_text t (numbers_read t l) (words_read t l) k ≡ part_of t.columns k l
    unfolding column_text cell_read column_width
    column_again k h =
        ap (λ (x : Content). cell_text x (column_at t.columns k) (cell_at t.columns (numbers_read t l) k) (part_at t.columns (words_read t l) k)) (content_same k)
        ∙ cell_again (column_at t.columns k) (part_of t.columns k l) (column_well_lem t.columns well.columns k h) (part_length k h)
        (content_of t l k) (holds_text t.columns k) _ _ (holds k) (column_fine k h) (cell_is k h) (words_are k h)

    -- the line is written again
    pub row_again : row_text t (numbers_read t l) (words_read t l) ≡ l
    unfolding row_text
    row_again = join-same _ _ (length t.columns) (λ k h. ap (λ (s : List ℕ). s ++ 124 ∷ []) (column_again k h)) ∙ row_parts
