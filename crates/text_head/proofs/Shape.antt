-- The first line of the head at fault, as the code goes from line to line.
use mathlib.Core.Bool.{Bool, true, false, cond, not}
use mathlib.Core.List.{List, []}
use mathlib.Core.Path.{◌≡◌, refl, sym, ap, subst, subst⁻¹, ◌∙◌}
use Prim.Native.Nat.{ℕ, ◌+◌, ◌-◌, ◌≤◌, ◌<◌, zero-le}
use native.Mathlib.Numerals.{add-one}
use native.Mathlib.Omega.{arith}
use lib.ListN.{length, get_or, drop, length-drop}
use borrow.Author.Tests.{ne_eqb, le-leb, lt-leb, lt-ltb, le-ltb, ltb-true}
use Rattle.std.proofs.Common.{Result, Ok, Err, None}
use Rattle.std.specs.Prelude.{MatchResult, ⊤}
use Rattle.sequences.specs.Below.{first_below}
use Rattle.sequences.proofs.Below.{first_none, first_more, first_here}
use Rattle.lines.proofs.Laws.{line_room}
use Rattle.lines.specs.Lines.{same, is_named, ended, next_at}
use Rattle.text_rules.specs.declared.ValueKind.TheVariants.{Any}
use Rattle.text_rules.specs.declared.Field.{Field as LentField}
use Rattle.text_rules.specs.Tables.{Field, field_of, fields_of, field_at}
use Rattle.text_rules.specs.Head.{head_lines, field_name, tag_word, is_opening, is_head_line}
use Rattle.text_rules.specs.Reading.{start_of, line_stands, wrong_line}
use Rattle.text_rules.proofs.Tables.{fields-length, field_lent}
use Rattle.text_lines.proofs.Standing.{stands_facts}
use Rattle.text_head.specs.declared.WrongLine.{WrongLine}
use Rattle.text_head.specs.Head.{line_passed, shape_found}

-- ---- what line k of the head has to be: the first, the line of a field, and the last
pub head_first : (fs : List Field) (l : List ℕ) → is_opening l ≡ is_head_line fs 0 l
unfolding is_head_line
head_first fs l = refl

-- what a list of fields has past its end
abbrev pub past : LentField
past = record { name = record { ref_ptr = (0, 0); now = [] }; form = record { digits = None; decimals = 0; signed = false; width = None }; kind = Any }

module _ (table : List LentField) (fs : List Field) (e : fields_of table ≡ fs) where
  pub lent_is : (i : ℕ) (d : LentField) → i < length table → field_of (get_or table i d) ≡ field_at fs i
  lent_is i d h = sym (field_lent table i d h) ∙ ap (λ (l : List Field). field_at l i) e

  pub fields_many : length fs ≡ length table
  fields_many = sym (ap length e) ∙ fields-length table

  -- the head has two lines more than the table has fields
  pub lines_are : head_lines fs ≡ length table + 2
  unfolding head_lines
  lines_are = ap (λ (n : ℕ). n + 2) fields_many

  pub head_named : (i : ℕ) (d : LentField) (l : List ℕ) → i < length table → is_named (get_or table i d).name.now l ≡ is_head_line fs (i + 1) l
  unfolding is_head_line field_name field_of
  head_named i d l h =
      let back : i + 1 - 1 ≡ i = omega arith in
      rw (ne_eqb (i + 1) 0 (λ z. omega arith), le-leb (i + 1) (length fs) (omega (arith, fields_many)), back)
      (ap (λ (f : Field). is_named f.name l) (lent_is i d h))

pub head_tag : (fs : List Field) (l : List ℕ) → same l tag_word ≡ is_head_line fs (length fs + 1) l
unfolding is_head_line
head_tag fs l = rw (ne_eqb (length fs + 1) 0 (λ z. omega arith), lt-leb (length fs + 1) (length fs) (omega arith))

module _ (fs : List Field) (text : List ℕ) where
  -- line k is at fault
  unfoldable pub wrong_at : ℕ → Bool
  wrong_at k = not (line_stands (is_head_line fs k) text (start_of text k))

  -- no line before k is at fault, and line k starts at `at`
  pub record Shape (at k : ℕ) : Type 0 where
    pub place : at ≡ start_of text k
    pub within : at ≤ length text
    pub none : first_below wrong_at k ≡ k

  pub shape_start : Shape 0 0
  unfolding start_of
  shape_start = record { place = refl; within = zero-le; none = first_none wrong_at }

  -- what the code answers of line k, by the test of that line
  abbrev Answered : Result ℕ WrongLine → Type 0
  Answered r = (r ≡ shape_found fs text) × MatchResult r (λ place. place ≤ length text) (λ wrong. wrong.place ≤ length text)

  -- all lines stand
  shape_all : (at : ℕ) → Shape at (head_lines fs) → Answered (Ok at)
  unfolding shape_found wrong_line wrong_at
  shape_all at v = (rw (v.none, le-ltb (head_lines fs) (head_lines fs) (omega arith), v.place), v.within)

  next_room : (test : List ℕ → Bool) (at : ℕ) → at ≤ length text → line_stands test text at ≡ true → next_at text at ≤ length text
  unfolding next_at ended
  next_room test at h e = omega (arith, line_room (drop at text) (ltb-true _ _ (stands_facts test text at e).0), length-drop at text)

  module _ (at k : ℕ) (v : Shape at k) (low : k < head_lines fs) where
    wrong_is : (b : Bool) → line_stands (is_head_line fs k) text at ≡ b → wrong_at k ≡ not b
    unfolding wrong_at
    wrong_is b e = rw (← v.place, e)

    abbrev stops : WrongLine
    stops = record { line = k; place = at }

    shape_wrong : line_stands (is_head_line fs k) text at ≡ false → Answered (Err stops)
    unfolding shape_found wrong_line wrong_at
    shape_wrong e =
        let w : wrong_line fs text ≡ k = first_here (wrong_at) (head_lines fs) k low v.none (wrong_is false e) in
        (rw (w, lt-ltb k (head_lines fs) low, v.place), v.within)

    shape_more : line_stands (is_head_line fs k) text at ≡ true → Shape (next_at text at) (k + 1)
    unfolding start_of
    shape_more e =
        record {
          place = rw add-one (ap (next_at text) v.place);
          within = next_room (is_head_line fs k) at v.within e;
          none = first_more wrong_at k v.none (wrong_is true e);
        }

    -- by what passing the line gives
    module _ (r : Result ℕ WrongLine) (e : r ≡ line_passed (is_head_line fs k) text k at) where
      pub shape_on : (p : ℕ) → r ≡ Ok p → Shape p (k + 1)
      unfolding line_passed
      shape_on p f = case (line_stands (is_head_line fs k) text at) refl (sym e ∙ f)
        where
          case : (b : Bool) → line_stands (is_head_line fs k) text at ≡ b → cond b (Ok (next_at text at)) (Err stops) ≡ Ok p → Shape p (k + 1)
          case true h g = let q : next_at text at ≡ p = cc in subst (λ (i : ℕ). Shape i (k + 1)) q (shape_more h)
          case false h g = absurd (subst (λ (x : Result ℕ WrongLine). MatchResult x (λ _. ⊥) (λ _. ⊤)) g tt)

      pub shape_off : (p : WrongLine) → r ≡ Err p → Answered (Err p)
      unfolding line_passed
      shape_off p f = case (line_stands (is_head_line fs k) text at) refl (sym e ∙ f)
        where
          case : (b : Bool) → line_stands (is_head_line fs k) text at ≡ b → cond b (Ok (next_at text at)) (Err stops) ≡ Err p → Answered (Err p)
          case false h g = let q : stops ≡ p = cc in subst (λ (w : WrongLine). Answered (Err w)) q (shape_wrong h)
          case true h g = absurd (subst (λ (x : Result ℕ WrongLine). MatchResult x (λ _. ⊤) (λ _. ⊥)) g tt)

      -- the last line
      pub shape_end : k + 1 ≡ head_lines fs → Answered r
      unfolding line_passed
      shape_end last = subst⁻¹ Answered e (case (line_stands (is_head_line fs k) text at) refl)
        where
          case : (b : Bool) → line_stands (is_head_line fs k) text at ≡ b → Answered (cond b (Ok (next_at text at)) (Err stops))
          case false h = shape_wrong h
          case true h = shape_all (next_at text at) (subst (λ (i : ℕ). Shape (next_at text at) i) last (shape_more h))
