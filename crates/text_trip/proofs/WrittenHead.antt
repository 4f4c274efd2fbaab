-- The lines of the head as they are written: each is free of 0D, and is the line to stand there.
use Rattle.std.proofs.lemmas.Grind.{common_steps}
use mathlib.Core.Path.{◌≡◌, refl, sym, ap, ◌∙◌}
use mathlib.Core.Bool.{true}
use mathlib.Core.List.{List, [], ◌∷◌, ◌++◌}
use Prim.Native.Nat.{ℕ, zero, suc, ◌+◌, ◌-◌, ◌<◌}
use native.Mathlib.Nat.{lt-suc_self}
use native.Mathlib.Omega.{arith}
use lib.Dec.{leb}
use lib.ListN.{length, get_or, drop, length-append}
use lib.Seq.{take_at, get_or_at}
use borrow.Author.Tests.{lt-leb, eq-eqb, ne_eqb}
use Rattle.sequences.proofs.Every.{every_none, every_more}
use Rattle.digits.specs.declared.Form.{Form}
use Rattle.digits.specs.declared.Figure.{Figure}
use Rattle.digits.specs.Digits.{number_text}
use Rattle.digits.proofs.Bytes.{number_high}
use Rattle.lines.specs.Lines.{other_byte, same, is_named, all_bytes}
use Rattle.lines.proofs.Turns.{all_is}
use Rattle.lines.proofs.Laws.{no_cr, all_append, bytes-no_cr, letters-no_cr, same_refl, named_written, value_written}
use Rattle.text_rules.specs.Tables.{Field, field_at}
use Rattle.text_rules.specs.Head.{head_lines, field_name, opening_word, closing_word, is_letters, letters_of, is_opening, tag_word, is_head_line, field_line, head_line, beside_letters}
use Rattle.text_rules.specs.Well.{fields_well}
use Rattle.text_rules.proofs.Well.{field_well_lem}

-- no byte of a number is 0D: each is 32 or more
pub number-no_cr : (f : Form) (z : Figure) → no_cr (number_text f z) ≡ true
number-no_cr f z = bytes-no_cr (leb 32) refl (number_text f z) (sym (all_is (leb 32) (number_text f z)) ∙ number_high f z)

-- Line 0.

module _ (letters : List ℕ) where
  abbrev opening_line : List ℕ
  opening_line = opening_word ++ (letters ++ closing_word)

  -- it has five bytes more than its letters
  opening-length : length opening_line ≡ length letters + 5
  opening-length = omega (arith, length-append letters closing_word)

  -- its letters are the ones written
  opening_letters : letters_of opening_line ≡ letters
  unfolding letters_of
  opening_letters = take_at letters closing_word (length opening_line - beside_letters) (omega (arith, opening-length))

  -- "]" stands last
  opening_last : get_or opening_line (length opening_line - 1) 0 ≡ 93
  opening_last = get_or_at (opening_word ++ letters) 93 [] 0 (length opening_line - 1) (omega (arith, opening-length))

  -- it is the line to stand there, and no byte of it is 0D
  opening_is : is_letters letters ≡ true → is_opening opening_line ≡ true
  unfolding is_opening same
  opening_is e = grind (arith, common_steps, every_more, same_refl, opening_letters, eq-eqb, opening_last, every_none)

  opening-no_cr : is_letters letters ≡ true → no_cr opening_line ≡ true
  unfolding is_letters all_bytes other_byte
  opening-no_cr e = grind (arith, common_steps, all_append, letters-no_cr)

-- The lines of a head with these fields.

module _ (fs : List Field) where
  -- where they stand: line 0, the lines of the fields, and the last line
  pub first_place : 0 < head_lines fs
  unfolding head_lines
  first_place = omega arith

  pub field_place : (k : ℕ) → k < length fs → suc k < head_lines fs
  unfolding head_lines
  field_place k h = omega arith

  pub tag_place : suc (length fs) < head_lines fs
  unfolding head_lines
  tag_place = omega arith

  -- there are no others
  pub head_cases : (P : ℕ → Type 0) → P 0 → ((k : ℕ) → k < length fs → P (suc k)) → P (suc (length fs)) → (k : ℕ) → k < head_lines fs → P k
  unfolding head_lines
  head_cases P first fields last zero h = first
  head_cases P first fields last (suc k) h = grind (arith, common_steps)

  -- line k + 1 is to be that of field k, and the last one TAGTAG
  pub is_field_lem : (k : ℕ) (l : List ℕ) → k < length fs → is_head_line fs (suc k) l ≡ is_named (field_name fs k) l
  unfolding is_head_line
  is_field_lem k l h = grind (arith, common_steps)

  pub is_tag : (l : List ℕ) → is_head_line fs (suc (length fs)) l ≡ same l tag_word
  unfolding is_head_line
  is_tag l = rw (ne_eqb (suc (length fs)) 0 (λ e. omega arith), lt-leb (suc (length fs)) (length fs) (lt-suc_self (length fs)))

  -- with these letters and figures
  module _ (letters : List ℕ) (figure : ℕ → Figure) where
    -- line k + 1 is the name of field k, "=" and its figure, and the last one TAGTAG
    pub head_field : (k : ℕ) → k < length fs → head_line fs letters figure (suc k) ≡ field_name fs k ++ 61 ∷ number_text (field_at fs k).form (figure k)
    unfolding head_line field_line field_name
    head_field k h = grind (arith, common_steps)

    pub head_tag : head_line fs letters figure (suc (length fs)) ≡ tag_word
    unfolding head_line
    head_tag = rw (ne_eqb (suc (length fs)) 0 (λ e. omega arith), lt-leb (suc (length fs)) (length fs) (lt-suc_self (length fs)))

    -- the value of field k
    pub head_value : (k : ℕ) → k < length fs
        → drop (length (field_name fs k) + 1) (head_line fs letters figure (suc k)) ≡ number_text (field_at fs k).form (figure k)
    head_value k h = grind (arith, common_steps, head_field, value_written)

    -- the letters
    pub head_letters : letters_of (head_line fs letters figure 0) ≡ letters
    unfolding head_line
    head_letters = opening_letters letters

    -- no byte of a line is 0D
    module _ (well : fields_well fs ≡ true) where
      name-no_cr : (k : ℕ) → k < length fs → no_cr (field_name fs k) ≡ true
      unfolding field_name
      name-no_cr k h = (field_well_lem fs well k h).clean

      field-no_cr : (k : ℕ) → k < length fs → no_cr (head_line fs letters figure (suc k)) ≡ true
      unfolding all_bytes other_byte
      field-no_cr k h = grind (arith, common_steps, no_cr, head_field, all_append, name-no_cr, number-no_cr)

      tag_no_cr : no_cr (head_line fs letters figure (suc (length fs))) ≡ true
      unfolding all_bytes other_byte
      tag_no_cr = ap no_cr head_tag

      pub head-no_cr : is_letters letters ≡ true → (k : ℕ) → k < head_lines fs → no_cr (head_line fs letters figure k) ≡ true
      unfolding head_line
      head-no_cr ok = head_cases (λ k. no_cr (head_line fs letters figure k) ≡ true) (opening-no_cr letters ok) field-no_cr tag_no_cr

    -- each is the line that is to stand there
    field_is : (k : ℕ) → k < length fs → is_head_line fs (suc k) (head_line fs letters figure (suc k)) ≡ true
    field_is k h = grind (arith, common_steps, is_field_lem, head_field, named_written)

    tag_is : is_head_line fs (suc (length fs)) (head_line fs letters figure (suc (length fs))) ≡ true
    unfolding same
    tag_is = is_tag _ ∙ ap (λ (l : List ℕ). same l tag_word) head_tag ∙ same_refl (λ x. x) tag_word

    pub head_is : is_letters letters ≡ true → (k : ℕ) → k < head_lines fs → is_head_line fs k (head_line fs letters figure k) ≡ true
    unfolding head_line is_head_line
    head_is ok = head_cases (λ k. is_head_line fs k (head_line fs letters figure k) ≡ true) (opening_is letters ok) field_is tag_is
