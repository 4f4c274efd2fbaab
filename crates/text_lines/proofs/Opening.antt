-- The first line, and the letters in it.
use mathlib.Core.Bool.{Bool, true, false, and-true, and-eq-true_iff, true≢false}
use mathlib.Core.List.{List, []}
use mathlib.Core.Path.{◌≡◌, sym, ap, ◌∙◌}
use Rattle.std.specs.Cmp.Lexicographic.{pointwise}
use Rattle.lines.proofs.Turns.{same_points}
use Prim.Native.Nat.{ℕ, suc, ◌+◌, ◌-◌, ◌≤◌}
use native.Mathlib.Omega.{arith}
use lib.Dec.{eqb}
use lib.ListN.{length, get_or, take, drop, length-take, drop_of_length-le}
use lib.Seq.{get_or-drop}
use Rattle.std.proofs.Math.Seq.{drop-cons}
use Rattle.sequences.specs.Every.{every}
use Rattle.sequences.proofs.Every.{every_at, inside_facts, false_of}
use Rattle.lines.specs.Lines.{ended, first_line}
use Rattle.text_rules.specs.Head.{is_letters, letters_of, is_opening, opening_word, most_letters, letters_start, beside_letters, closing_word}
use Rattle.text_rules.specs.Reading.{line_of, line_stands, letters_read}
use Rattle.text_lines.proofs.Standing.{stands_not, stands_as}

-- 1 to 8 letters or digits
pub letters_count : (s : List ℕ) → is_letters s ≡ true → (1 ≤ length s) × (length s ≤ most_letters)
unfolding is_letters
letters_count s e = inside_facts 1 most_letters (length s) ((and-eq-true_iff _ _).0 e).0

-- the last byte, as the code asks for it
last_byte : (s : List ℕ) → 1 ≤ length s → pointwise eqb (drop (length s - 1) s) closing_word ≡ eqb (get_or s (length s - 1) 0) 93
last_byte s h = rw (drop-cons s (length s - 1) 0 (omega arith), drop_of_length-le s {i = suc (length s - 1)} (omega arith)) (and-true (eqb (get_or s (length s - 1) 0) 93))

-- "[ETF", letters, "]"
module _ (l : List ℕ) where
  pub opening_other : pointwise eqb (take letters_start l) opening_word ≡ false → is_opening l ≡ false
  unfolding is_opening every
  opening_other e = rw (← same_points (take letters_start l) opening_word, e)

  -- what stands behind "[ETF"
  module _ (word : pointwise eqb (take letters_start l) opening_word ≡ true) {r : List ℕ} (rest : r ≡ drop letters_start l) (long : length r + letters_start ≡ length l) where
    part_is : take (length r - 1) r ≡ letters_of l
    unfolding letters_of
    part_is = let n : length (drop letters_start l) - 1 ≡ length l - beside_letters = omega (arith, ap length rest, long) in rw (rest, n)

    last_is : 1 ≤ length r → get_or r (length r - 1) 0 ≡ get_or l (length l - 1) 0
    last_is h =
        let place : letters_start + (length r - 1) ≡ length l - 1 = omega (arith, long) in
        ap (λ (s : List ℕ). get_or s (length r - 1) 0) rest ∙ get_or-drop letters_start l (length r - 1) 0 ∙ ap (λ (k : ℕ). get_or l k 0) place

    pub opening_bare : pointwise eqb (drop (length r - 1) r) closing_word ≡ false → is_opening l ≡ false
    unfolding is_opening
    opening_bare e = false_of (is_opening l) (λ o.
        let some : 1 ≤ length r = omega (arith, (letters_count (letters_of l) (every_at _ o 1)).0, ap length part_is, length-take (length r - 1) r) in
        let closed : pointwise eqb (drop (length r - 1) r) closing_word ≡ true = last_byte r some ∙ rw (last_is some) (every_at _ o 2) in
        true≢false (sym closed ∙ e))

    module _ (closed : pointwise eqb (drop (length r - 1) r) closing_word ≡ true) {x : List ℕ} (part : x ≡ take (length r - 1) r) (size : length x + 1 ≡ length r) where
      letters_are : x ≡ letters_of l
      letters_are = part ∙ part_is

      opening_is : is_opening l ≡ is_letters x
      unfolding is_opening every
      opening_is =
          let some : 1 ≤ length r = omega (arith, size) in
          rw (← same_points (take letters_start l) opening_word, word, ← letters_are, ← last_is some, ← last_byte r some, closed, and-true)

      pub opening_told : {b : Bool} → b ≡ is_letters x → (b ≡ is_opening l) × (x ≡ letters_of l)
      opening_told e = (e ∙ sym opening_is, letters_are)

-- ---- the letters that a text says
module _ (text : List ℕ) where
  pub letters_open : ended text ≡ false → [] ≡ letters_read text
  unfolding letters_read
  letters_open h = rw (stands_not is_opening text 0 h)

  module _ (h : ended text ≡ true) {line : List ℕ} (is : line ≡ first_line text) where
    stands_first : line_stands is_opening text 0 ≡ is_opening line
    unfolding line_of
    stands_first = stands_as is_opening text 0 h ∙ ap is_opening (sym is)

    pub letters_other : is_opening line ≡ false → [] ≡ letters_read text
    unfolding letters_read
    letters_other e = rw (stands_first, e)

    pub letters_said : is_opening line ≡ true → letters_of line ≡ letters_read text
    unfolding letters_read line_of
    letters_said e = rw (stands_first, e, ← is)
