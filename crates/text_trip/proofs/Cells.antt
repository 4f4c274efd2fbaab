-- The numbers and the words of a line, column by column: a list of as many is the join of what its columns have, and what such
-- a join has for a column is that column's.
use Rattle.std.proofs.lemmas.Grind.{common_steps}
use mathlib.Core.Path.{◌≡◌, refl, sym, ap, ◌∙◌}
use mathlib.Core.Bool.{Bool, true, false, cond}
use mathlib.Core.List.{List, [], ◌∷◌}
use Prim.Native.Nat.{ℕ, suc, ◌<◌}
use native.Mathlib.Nat.{le_of_eq}
use native.Mathlib.Omega.{arith}
use lib.ListN.{length, get_or, take, drop, length-drop}
use lib.Seq.{length-take-le, drop-cons, take_all}
use Rattle.sequences.specs.Below.{sum_below, join_below}
use Rattle.sequences.proofs.Below.{sum_grows}
use Rattle.text_rules.specs.declared.Column.{Column}
use Rattle.text_rules.specs.Columns.{column_width, holds_text, numbers_before, words_before, line_numbers, line_words, cell_at, part_at}
use Rattle.text_trip.proofs.Below.{join-same, parts-take, parts-length, part-take}

-- what a column adds to the numbers and to the words of a line
abbrev pub cell_part : Bool → ℕ → List ℕ
cell_part text n = cond text [] (n ∷ [])

abbrev pub word_part : Bool → List ℕ → List ℕ
word_part text s = cond text s []

-- the same, by what counts
pub cell_same : (b : Bool) (n m : ℕ) → (b ≡ false → n ≡ m) → cell_part b n ≡ cell_part b m
cell_same true n m e = refl
cell_same false n m e = ap (λ (i : ℕ). i ∷ []) (e refl)

pub word_same : (b : Bool) (s r : List ℕ) → (b ≡ true → s ≡ r) → word_part b s ≡ word_part b r
word_same true s r e = e refl
word_same false s r e = refl

-- how many numbers that are, by whether it holds text, and how many bytes
abbrev cells : Bool → ℕ
cells b = cond b 0 1

cell-length : (b : Bool) (n : ℕ) → length (cell_part b n) ≡ cells b
cell-length true n = refl
cell-length false n = refl

word-length : (b : Bool) (s : List ℕ) (w : ℕ) → (b ≡ true → length s ≡ w) → length (word_part b s) ≡ cond b w 0
word-length true s w h = h refl
word-length false s w h = refl

-- the next element of a list, where there is one more
cell_next : (b : Bool) (l : List ℕ) (at : ℕ) → (b ≡ false → at < length l) → take (cells b) (drop at l) ≡ cell_part b (get_or l at 0)
cell_next true l at h = refl
cell_next false l at h = ap (take 1) (drop-cons l at 0 (h refl))

word_next : (b : Bool) (l : List ℕ) (at w : ℕ) → take (cond b w 0) (drop at l) ≡ word_part b (take w (drop at l))
word_next true l at w = refl
word_next false l at w = refl

module _ (cs : List Column) where
  -- a column that holds a number has its place among the numbers
  number_place : (k : ℕ) → k < length cs → holds_text cs k ≡ false → numbers_before cs k < line_numbers cs
  unfolding numbers_before line_numbers sum_below
  number_place k h e =
      let one : cells (holds_text cs k) ≡ 1 = ap cells e in
      omega (arith, one, sum_grows (λ i. cells (holds_text cs i)) (suc k) (length cs) h)

  -- a column that holds text has its words among those of the line
  pub part_long : (l : List ℕ) → length l ≡ line_words cs → (k : ℕ) → k < length cs → holds_text cs k ≡ true
      → length (part_at cs l k) ≡ column_width cs k
  unfolding part_at line_words words_before sum_below
  part_long l e k h b =
      let some : cond (holds_text cs k) (column_width cs k) 0 ≡ column_width cs k = ap (λ (c : Bool). cond c (column_width cs k) 0) b in
      let more = sum_grows (λ i. cond (holds_text cs i) (column_width cs i) 0) (suc k) (length cs) h in
      length-take-le (column_width cs k) (drop (words_before cs k) l) (omega (arith, e, some, more, length-drop (words_before cs k) l))

  -- a list of a line's numbers, and one of its words, by their columns
  pub numbers-join : (l : List ℕ) → length l ≡ line_numbers cs → join_below (λ k. cell_part (holds_text cs k) (cell_at cs l k)) (length cs) ≡ l
  unfolding cell_at line_numbers numbers_before
  numbers-join l e =
      join-same _ _ (length cs)
      (λ k h. sym (cell_next (holds_text cs k) l (numbers_before cs k) (λ b. omega (arith, e, number_place k h b))))
      ∙ sym (parts-take (λ i. cells (holds_text cs i)) (length cs) l)
      ∙ take_all (line_numbers cs) l (le_of_eq e)

  pub words-join : (l : List ℕ) → length l ≡ line_words cs → join_below (λ k. word_part (holds_text cs k) (part_at cs l k)) (length cs) ≡ l
  unfolding part_at line_words words_before
  words-join l e =
      join-same _ _ (length cs) (λ k h. sym (word_next (holds_text cs k) l (words_before cs k) (column_width cs k)))
      ∙ sym (parts-take (λ i. cond (holds_text cs i) (column_width cs i) 0) (length cs) l)
      ∙ take_all (line_words cs) l (le_of_eq e)

  -- Numbers by column.
  module _ (f : ℕ → ℕ) where
    abbrev pub numbers_of : List ℕ
    numbers_of = join_below (λ k. cell_part (holds_text cs k) (f k)) (length cs)

    pub numbers-length : length numbers_of ≡ line_numbers cs
    unfolding line_numbers numbers_before
    numbers-length = parts-length (λ i. cells (holds_text cs i)) _ (length cs) (λ k h. cell-length (holds_text cs k) (f k))

    -- a column's number is the one put there
    pub number_at : (k : ℕ) → k < length cs → holds_text cs k ≡ false → cell_at cs numbers_of k ≡ f k
    unfolding cell_at numbers_before
    number_at k h e =
        let there = number_place k h e in
        let put = part-take (λ i. cells (holds_text cs i)) (λ i. cell_part (holds_text cs i) (f i)) (length cs) (λ i _. cell-length (holds_text cs i) (f i)) k h in
        let next = cell_next (holds_text cs k) numbers_of (numbers_before cs k) (λ _. omega (arith, numbers-length, there)) in
        ap (λ (b : Bool). get_or (cell_part b (cell_at cs numbers_of k)) 0 0) (sym e)
        ∙ ap (λ (s : List ℕ). get_or s 0 0) (sym next ∙ put)
        ∙ ap (λ (b : Bool). get_or (cell_part b (f k)) 0 0) e

  -- Words by column, each as wide as it.
  module _ (f : ℕ → List ℕ) (wide : (k : ℕ) → k < length cs → holds_text cs k ≡ true → length (f k) ≡ column_width cs k) where
    abbrev pub words_of : List ℕ
    words_of = join_below (λ k. word_part (holds_text cs k) (f k)) (length cs)

    pub words-length : length words_of ≡ line_words cs
    unfolding line_words words_before
    words-length = grind (arith, common_steps, parts-length, word-length)

    pub words_at_lem : (k : ℕ) → k < length cs → holds_text cs k ≡ true → part_at cs words_of k ≡ f k
    unfolding part_at words_before
    words_at_lem k h e =
        ap (λ (b : Bool). take (cond b (column_width cs k) 0) (drop (words_before cs k) words_of)) (sym e)
        ∙ part-take (λ i. cond (holds_text cs i) (column_width cs i) 0) (λ i. word_part (holds_text cs i) (f i)) (length cs)
        (λ i l. word-length (holds_text cs i) (f i) (column_width cs i) (wide i l)) k h
        ∙ ap (λ (b : Bool). word_part b (f k)) e
