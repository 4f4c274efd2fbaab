-- A text that passes 18 and 19 is written again, but for the case of the names of its fields.
use mathlib.Core.Path.{◌≡◌, refl, sym, ap, ap₂, ◌∙◌}
use mathlib.Core.Bool.{true}
use mathlib.Core.List.{List, ◌++◌}
use Prim.Native.Nat.{ℕ, ◌+◌, ◌*◌, ◌<◌}
use lib.ListN.{length, drop, length-append}
use Rattle.sequences.specs.Below.{join_below}
use Rattle.digits.specs.Digits.{cap}
use Rattle.lines.specs.Lines.{line_text, name_byte, all_bytes}
use Rattle.lines.proofs.Laws.{length-line_text}
use Rattle.text_rules.specs.Tables.{TextForm}
use Rattle.text_rules.specs.Head.{head_lines, is_head_line, end_word}
use Rattle.text_rules.specs.Columns.{line_numbers, line_words, holds_text, numbers_read, words_read, part_at, row_text}
use Rattle.text_rules.specs.Reading.{start_of, line_of, body_start, row_count, row_of, figure_read, run_read, texts_read}
use Rattle.text_rules.specs.Writing.{numbers_at, words_at, head_text, rows_text, sheet_text}
use Rattle.text_rules.proofs.Well.{WellForm, form_facts}
use Rattle.text_trip.specs.Trips.{sheet_read, renamed_line, renamed, ReadWrites}
use Rattle.text_trip.proofs.Below.{join-same, parts-length, length_below, stretch_below}
use Rattle.text_trip.proofs.ReadTests.{Reads, reads}
use Rattle.text_trip.proofs.ReadRows.{stands, lines_join, row_stands, rest_read}
use Rattle.text_trip.proofs.ReadColumns.{read_numbers, read_words, words_fine, row_again}
use Rattle.text_trip.proofs.ReadHead.{letters_fine, head_same, head_again}

module _ (t : TextForm) (text : List ℕ) (well : WellForm t) (r : Reads t text) where
  -- the numbers and the words of the j-th component line are those that were read there
  run_length : length (run_read t text) ≡ row_count t text * line_numbers t.columns
  unfolding run_read
  run_length = length_below (line_numbers t.columns) _ (row_count t text) (λ j _. read_numbers t (row_of t text j))

  numbers_at_lem : (j : ℕ) → j < row_count t text → numbers_at t (run_read t text) j ≡ numbers_read t (row_of t text j)
  unfolding run_read numbers_at
  numbers_at_lem =
      stretch_below (line_numbers t.columns) (λ j. numbers_read t (row_of t text j)) (row_count t text) (λ j _. read_numbers t (row_of t text j))

  texts-length : length (texts_read t text) ≡ row_count t text * line_words t.columns
  unfolding texts_read
  texts-length =
      length_below (line_words t.columns) _ (row_count t text) (λ j h. read_words t (row_of t text j) (row_stands t text r j h))

  words_at_lem : (j : ℕ) → j < row_count t text → words_at t (texts_read t text) j ≡ words_read t (row_of t text j)
  unfolding texts_read words_at
  words_at_lem =
      stretch_below (line_words t.columns) (λ j. words_read t (row_of t text j)) (row_count t text)
      (λ j h. read_words t (row_of t text j) (row_stands t text r j h))

  -- words are bytes of names
  names_read_lem : (j k : ℕ) → j < row_count t text → k < length t.columns → holds_text t.columns k ≡ true
      → all_bytes name_byte (part_at t.columns (words_at t (texts_read t text) j) k) ≡ true
  names_read_lem j k h l e =
      ap (λ (s : List ℕ). all_bytes name_byte (part_at t.columns s k)) (words_at_lem j h)
      ∙ words_fine t (row_of t text j) (row_stands t text r j h) well (r.columns j h) k l e

  -- each component line is written again
  rows_again : (j : ℕ) → j < row_count t text → row_text t (numbers_at t (run_read t text) j) (words_at t (texts_read t text) j) ≡ row_of t text j
  rows_again j h =
      ap₂ (row_text t) (numbers_at_lem j h) (words_at_lem j h)
      ∙ row_again t (row_of t text j) (row_stands t text r j h) well (r.columns j h)

  -- the names as they are listed are as long as those of the text
  line_same : (k : ℕ) → k < head_lines t.fields
      → length (line_text (renamed_line t.fields text k)) ≡ length (line_text (line_of text (start_of text k)))
  line_same k h =
      length-line_text _ ∙ ap (λ (n : ℕ). n + 2) (head_same t text well r k h) ∙ sym (length-line_text (line_of text (start_of text k)))

  renamed-length : length (renamed t text) ≡ length text
  unfolding renamed body_start
  renamed-length =
      let n = head_lines t.fields in
      let old : ℕ → List ℕ = λ k. line_text (line_of text (start_of text k)) in
      let rest = drop (start_of text n) text in
      length-append (join_below (λ k. line_text (renamed_line t.fields text k)) n) rest
      ∙ ap (λ (m : ℕ). m + length rest)
      (parts-length (λ k. length (old k)) _ n line_same ∙ sym (parts-length (λ k. length (old k)) old n (λ k h. refl)))
      ∙ sym (length-append (join_below old n) rest)
      ∙ ap length (lines_join text n (λ k h. (stands (is_head_line t.fields k) text (start_of text k) (r.lines k h)).0))

  -- the text is written again
  text_again : ((k : ℕ) → k < length t.fields → (figure_read t.fields text k).size < cap) → sheet_text t (sheet_read t text) ≡ renamed t text
  unfolding sheet_text head_text rows_text renamed sheet_read
  text_again small =
      ap₂ ◌++◌ (join-same _ _ (head_lines t.fields) (λ k h. ap line_text (head_again t text well r small k h)))
      (ap (λ (s : List ℕ). s ++ line_text end_word) (join-same _ _ (row_count t text) (λ j h. ap line_text (rows_again j h)))
      ∙ sym (rest_read t text r))

-- the theorem
pub read_writes : ReadWrites
read_writes t text e shape fields =
    let well = form_facts t e in
    let r = reads t text shape fields in
    record {
      letters = letters_fine t text well r;
      run_length = run_length t text well r;
      texts-length = texts-length t text well r;
      words = names_read_lem t text well r;
      same_length = renamed-length t text well r;
      again = text_again t text well r;
    }
