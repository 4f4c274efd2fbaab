-- The head of a text that passes, written again: its first line, its fields and TAGTAG, each as long as it was.
use Rattle.std.proofs.lemmas.Grind.{common_steps}
use mathlib.Core.Path.{◌≡◌, refl, sym, ap, ap₂, ◌∙◌}
use mathlib.Core.Bool.{true, cond, and-eq-true_iff}
use mathlib.Core.List.{List, [], ◌∷◌, ◌++◌}
use Prim.Native.Nat.{ℕ, suc, ◌+◌, ◌-◌, ◌≤◌, ◌<◌}
use native.Mathlib.Nat.{le_of_lt}
use native.Mathlib.Omega.{arith}
use Rattle.std.proofs.lemmas.Option.{none-some}
use lib.ListN.{length, get_or, take, drop, length-take, length-drop, take-append-drop, drop_of_length-le}
use lib.Seq.{length-take-le, split_at, get_or-drop, drop_at}
use borrow.Author.Tests.{eqb-true}
use Rattle.sequences.specs.Every.{inside}
use Rattle.sequences.proofs.Every.{every_at, inside-true, inside_facts, false_of}
use Rattle.digits.specs.Digits.{cap, number_text}
use Rattle.digits.proofs.Trip.{number_again}
use Rattle.lines.specs.Lines.{letter_byte, all_bytes, is_named}
use Rattle.lines.proofs.Laws.{same_is, named_long, named_split}
use Rattle.text_rules.specs.Tables.{TextForm, field_at}
use Rattle.text_rules.specs.Head.{head_lines, field_name, is_field, opening_word, closing_word, is_letters, letters_of}
use Rattle.text_rules.specs.Head.{is_opening, tag_word, is_head_line, head_line, most_letters, letters_start, beside_letters, shortest_opening}
use Rattle.text_rules.specs.Reading.{start_of, line_of, word_of, figure_read, letters_read}
use Rattle.text_rules.proofs.Well.{WellForm, field_well_lem}
use Rattle.text_trip.specs.Trips.{renamed_line}
use Rattle.text_trip.proofs.WrittenHead.{first_place, field_place, tag_place, head_cases, is_field_lem, is_tag, head_field, head_tag}
use Rattle.text_trip.proofs.ReadTests.{Reads}
use Rattle.text_trip.proofs.ReadRows.{stands}

-- The first line.

opening_letters : (l : List ℕ) → is_opening l ≡ true → is_letters (letters_of l) ≡ true
unfolding is_opening
opening_letters l e = every_at _ e 1

-- it has at least six bytes
opening_long : (l : List ℕ) → is_opening l ≡ true → shortest_opening ≤ length l
unfolding is_letters letters_of
opening_long l e =
    let p = (and-eq-true_iff (inside 1 8 (length (letters_of l))) (all_bytes letter_byte (letters_of l))).0 (opening_letters l e) in
    omega (arith, (inside_facts 1 most_letters (length (letters_of l)) p.0).0, length-take (length l - beside_letters) (drop letters_start l), length-drop letters_start l)

-- and is its word, its letters and its bracket
opening_again : (l : List ℕ) → is_opening l ≡ true → opening_word ++ (letters_of l ++ closing_word) ≡ l
unfolding is_opening letters_of
opening_again l e =
    let long = opening_long l e in
    let size = length-drop letters_start l in
    let place : letters_start + (length l - beside_letters) ≡ length l - 1 = omega arith in
    let bracket : get_or l (length l - 1) 0 ≡ 93 = eqb-true _ _ (every_at _ e 2) in
    let last : get_or (drop letters_start l) (length l - beside_letters) 0 ≡ 93 = get_or-drop letters_start l (length l - beside_letters) 0 ∙ ap (λ (k : ℕ). get_or l k 0) place ∙ bracket in
    ap₂ ◌++◌ (sym (same_is _ _ (every_at _ e 0)))
    (ap₂ (λ (b : ℕ) (r : List ℕ). take (length l - beside_letters) (drop letters_start l) ++ b ∷ r) (sym last)
    (sym (drop_of_length-le (drop letters_start l) {i = suc (length l - beside_letters)} (omega arith)))
    ∙ sym (split_at (drop letters_start l) (length l - beside_letters) 0 (omega arith)))
    ∙ take-append-drop letters_start l

-- A field's line with its name as it is listed: its value is the same, and it is as long as it was.

named_again : (n l v : List ℕ) → is_named n l ≡ true → v ≡ drop (length n + 1) l → n ++ 61 ∷ v ≡ n ++ drop (length n) l
named_again n l v e q =
    ap (λ (r : List ℕ). n ++ 61 ∷ r) q
    ∙ ap (λ (r : List ℕ). n ++ r)
    (sym (ap (drop (length n)) (named_split n l e)
    ∙ drop_at (take (length n) l) (61 ∷ drop (length n + 1) l) (length n) (length-take-le (length n) l (le_of_lt (named_long n l e)))))

named_same : (n l : List ℕ) → is_named n l ≡ true → length (n ++ drop (length n) l) ≡ length l
named_same n l e = grind (arith, common_steps, named_long)

module _ (t : TextForm) (text : List ℕ) where
  -- which lines have the name of a field
  renamed_field : (k : ℕ) → k < length t.fields
      → renamed_line t.fields text (suc k)
      ≡ field_name t.fields k ++ drop (length (field_name t.fields k)) (line_of text (start_of text (suc k)))
  unfolding renamed_line
  renamed_field k h = grind (arith, common_steps, inside-true)

  renamed_tag : renamed_line t.fields text (suc (length t.fields)) ≡ line_of text (start_of text (suc (length t.fields)))
  unfolding renamed_line
  renamed_tag = grind (arith, common_steps, false_of, inside_facts)

module _ (t : TextForm) (text : List ℕ) (well : WellForm t) (r : Reads t text) where
  -- each line is the one to stand there
  head_read : (k : ℕ) → k < head_lines t.fields → is_head_line t.fields k (line_of text (start_of text k)) ≡ true
  head_read k h = (stands (is_head_line t.fields k) text (start_of text k) (r.lines k h)).1

  opening_read : is_opening (line_of text 0) ≡ true
  unfolding is_head_line start_of
  opening_read = head_read 0 (first_place t.fields)

  named_read : (k : ℕ) → k < length t.fields → is_named (field_name t.fields k) (line_of text (start_of text (suc k))) ≡ true
  named_read k h = sym (is_field_lem t.fields k _ h) ∙ head_read (suc k) (field_place t.fields k h)

  tag_read : line_of text (start_of text (suc (length t.fields))) ≡ tag_word
  tag_read = same_is _ _ (sym (is_tag t.fields _) ∙ head_read _ (tag_place t.fields))

  -- the letters are those of the first line
  letters_are : letters_read text ≡ letters_of (line_of text 0)
  unfolding letters_read start_of is_head_line
  letters_are = ap (λ b. cond b (letters_of (line_of text 0)) []) (r.lines 0 (first_place t.fields))

  pub letters_fine : is_letters (letters_read text) ≡ true
  letters_fine = ap is_letters letters_are ∙ opening_letters (line_of text 0) opening_read

  -- each line is as long with the name as it is listed
  first_same : length (renamed_line t.fields text 0) ≡ length (line_of text (start_of text 0))
  unfolding renamed_line inside
  first_same = refl

  pub head_same : (k : ℕ) → k < head_lines t.fields → length (renamed_line t.fields text k) ≡ length (line_of text (start_of text k))
  head_same =
      head_cases t.fields (λ k. length (renamed_line t.fields text k) ≡ length (line_of text (start_of text k))) first_same
      (λ k h. ap length (renamed_field t text k h) ∙ named_same _ _ (named_read k h))
      (ap length (renamed_tag t text))

  -- With figures below the cap.
  module _ (small : (k : ℕ) → k < length t.fields → (figure_read t.fields text k).size < cap) where
    abbrev written : ℕ → List ℕ
    written k = head_line t.fields (letters_read text) (figure_read t.fields text) k

    -- the figures are written as they were
    field_again : (k : ℕ) → k < length t.fields
        → number_text (field_at t.fields k).form (figure_read t.fields text k) ≡ word_of t.fields text k
    unfolding figure_read is_field
    field_again k h = grind (arith, common_steps, number_again, none-some, field_well_lem)

    first_again : written 0 ≡ renamed_line t.fields text 0
    unfolding head_line renamed_line start_of inside
    first_again = ap (λ (s : List ℕ). opening_word ++ (s ++ closing_word)) letters_are ∙ opening_again (line_of text 0) opening_read

    line_again : (k : ℕ) → k < length t.fields → written (suc k) ≡ renamed_line t.fields text (suc k)
    unfolding word_of
    line_again k h = grind (arith, common_steps, head_field, named_again, named_read, field_again, renamed_field)

    tag_again : written (suc (length t.fields)) ≡ renamed_line t.fields text (suc (length t.fields))
    tag_again = head_tag t.fields (letters_read text) (figure_read t.fields text) ∙ sym (renamed_tag t text ∙ tag_read)

    -- each line of the head is written again, with its name as it is listed
    pub head_again : (k : ℕ) → k < head_lines t.fields → written k ≡ renamed_line t.fields text k
    head_again = head_cases t.fields (λ k. written k ≡ renamed_line t.fields text k) first_again line_again tag_again
