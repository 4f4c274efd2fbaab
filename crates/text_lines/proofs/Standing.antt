-- Component lines that stand in a text with their end, and how many there are.
use Rattle.std.proofs.lemmas.Grind.{common_steps}
use Prim.Native.Nat.{ℕ, ◌+◌, ◌-◌, ◌*◌, ◌/◌, ◌≤◌, ◌<◌, zero-le}
use mathlib.Core.Path.{◌≡◌, refl, sym, ap, ◌∙◌}
use mathlib.Core.Bool.{Bool, true, false, not, and-eq-true_iff}
use mathlib.Core.List.{List}
use native.Mathlib.Nat.{suc-mul, mul-le-mul_right, le-div_iff_mul-le}
use native.Mathlib.Numerals.{add-one}
use native.Mathlib.Omega.{arith}
use lib.ListN.{length, take, drop, length-drop}
use borrow.Author.Tests.{ltb-true, eqb-true}
use Rattle.std.specs.Prelude.{Option, Some, None, MatchOption, unwrap_or, ◌↔◌}
use Rattle.sequences.proofs.Below.{first_end, first_here}
use Rattle.sequences.proofs.Every.{false_of}
use Rattle.std.proofs.lemmas.List.{take_rest}
use Rattle.lines.specs.Lines.{ended, first_line}
use Rattle.lines.proofs.Laws.{first-length, line_room}
use Rattle.text_rules.specs.declared.Column.{Column}
use Rattle.text_rules.specs.Columns.{line_width, line_pitch, is_row}
use Rattle.text_rules.specs.Reading.{line_of, line_stands, rows_from}

-- A line that stands has its end, and is the one to stand there.

module _ (test : List ℕ → Bool) (text : List ℕ) (at : ℕ) where
  pub stands_not : ended (drop at text) ≡ false → line_stands test text at ≡ false
  unfolding line_stands
  stands_not e = rw e

  pub stands_as : ended (drop at text) ≡ true → line_stands test text at ≡ test (line_of text at)
  unfolding line_stands
  stands_as e = rw e

  pub stands_facts : line_stands test text at ≡ true → (ended (drop at text) ≡ true) × (test (line_of text at) ≡ true)
  unfolding line_stands
  stands_facts e = (and-eq-true_iff (ended (drop at text)) (test (line_of text at))).0 e

-- What the code says of a line at a place: the text from there on, as the code has it.

module _ (test : List ℕ → Bool) (text : List ℕ) (at : ℕ) where
  pub stands_none : ended (take (length text - at) (drop at text)) ≡ false → false ≡ line_stands test text at
  stands_none h = sym (stands_not test text at (ap ended (sym (take_rest text at)) ∙ h))

  pub stands_some : ended (take (length text - at) (drop at text)) ≡ true → {line : List ℕ} → line ≡ first_line (take (length text - at) (drop at text))
      → {b : Bool} → b ≡ test line → b ≡ line_stands test text at
  unfolding line_of
  stands_some h e f = f ∙ ap test (e ∙ ap first_line (take_rest text at)) ∙ sym (stands_as test text at (ap ended (sym (take_rest text at)) ∙ h))

-- Lines of one width, one behind the other.

pub next_line : (j w : ℕ) → (j + 1) * w ≡ j * w + w
next_line j w = rw add-one (suc-mul j w)

pub lines_room : (j n w : ℕ) → j < n → j * w + w ≤ n * w
lines_room j n w h = grind (arith, common_steps, next_line, mul-le-mul_right)

module _ (cs : List Column) where
  pub pitch_line : line_pitch cs ≡ line_width cs + 2
  unfolding line_pitch
  pitch_line = refl

  -- a component line and its end take the pitch
  row-length : (l : List ℕ) → is_row cs l ≡ true → length l ≡ line_width cs
  unfolding is_row
  row-length l e = eqb-true (length l) (line_width cs) ((and-eq-true_iff _ _).0 e).0

  row_next : (text : List ℕ) (at : ℕ) → at ≤ length text → line_stands (is_row cs) text at ≡ true → at + line_pitch cs ≤ length text
  unfolding line_of ended
  row_next text at w e =
      let s : List ℕ = drop at text in
      let both = stands_facts (is_row cs) text at e in
      omega (
        arith,
        pitch_line,
        row-length (first_line s) both.1,
        first-length s,
        line_room s (ltb-true _ _ both.0),
        length-drop at text,
      )

  module _ (text : List ℕ) (start : ℕ) where
    -- a component line stands as the j-th
    abbrev pub stands_at : ℕ → Bool
    stands_at j = line_stands (is_row cs) text (start + j * line_pitch cs)

    module _ (low : start ≤ length text) where
      -- so many have room
      abbrev room : ℕ
      room = (length text - start) / line_pitch cs

      room_is : (j : ℕ) → (j ≤ room) ↔ (start + j * line_pitch cs ≤ length text)
      room_is j =
          let h = le-div_iff_mul-le {k = line_pitch cs} {x = j} {y = length text - start} (omega (arith, pitch_line)) in
          (λ l. omega (arith, h.0 l, low), λ l. h.1 (omega (arith, l)))

      no_more : stands_at room ≡ false
      no_more =
          false_of (stands_at room) (λ e.
          let l : start + (room + 1) * line_pitch cs ≤ length text = omega (arith, row_next text (start + room * line_pitch cs) ((room_is room).0 (omega arith)) e, next_line room (line_pitch cs)) in
          omega (arith, (room_is (room + 1)).1 l))

      counted : (n : ℕ) → n ≤ room → stands_at n ≡ false → ((k : ℕ) → k < n → stands_at k ≡ true)
          → (n ≡ rows_from cs text start) × (start + n * line_pitch cs ≤ length text)
      unfolding rows_from
      counted n h off on =
          let fits = (room_is n).0 h in
          let few : n ≤ length text / line_pitch cs = (le-div_iff_mul-le {k = line_pitch cs} {x = n} {y = length text} (omega (arith, pitch_line))).1 (omega (arith, fits)) in (
            sym (first_here _ (length text / line_pitch cs + 1) n (omega (arith, few)) (first_end _ n (λ k l. ap not (on k l))) (ap not off)),
            fits,
          )

      found : (r : Option ℕ)
          → MatchOption r ((k : ℕ) → 0 ≤ k → k < room → stands_at k ≡ true)
          (λ i. (0 ≤ i) × (i < room) × (stands_at i ≡ false) × ((k : ℕ) → 0 ≤ k → k < i → stands_at k ≡ true))
          → (unwrap_or r room ≡ rows_from cs text start) × (start + unwrap_or r room * line_pitch cs ≤ length text)
      found None h = counted room (omega arith) no_more (λ k l. h k zero-le l)
      found (Some i) h = counted i (omega (arith, h.1)) h.2 (λ k l. h.3 k zero-le l)

      module _ {w : ℕ} (pitch : w ≡ line_pitch cs) where
        -- the place of a line that has room
        pub row_place : (j : ℕ) → j < (length text - start) / w → start + j * w ≤ length text
        row_place j l = let h = rw pitch at l in rw pitch ((room_is j).0 (omega (arith, h)))

        -- what a search for the first line that does not stand finds
        pub rows_counted : (r : Option ℕ)
            → MatchOption r ((k : ℕ) → 0 ≤ k → k < (length text - start) / w → stands_at k ≡ true)
            (λ i. (0 ≤ i) × (i < (length text - start) / w) × (stands_at i ≡ false) × ((k : ℕ) → 0 ≤ k → k < i → stands_at k ≡ true))
            → {n : ℕ} → n ≡ unwrap_or r ((length text - start) / w)
            → (n ≡ rows_from cs text start) × (start + n * line_pitch cs ≤ length text)
        rows_counted r h u = rw (u, pitch) (found r (rw pitch at h))
