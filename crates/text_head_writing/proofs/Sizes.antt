-- The lines of the head as they are written, and how long they are.
use mathlib.Core.Bool.{Bool, true, false}
use mathlib.Core.List.{List, ◌∷◌, ◌++◌}
use mathlib.Core.Path.{◌≡◌, refl, sym, ap, subst⁻¹, ◌∙◌}
use Prim.Native.Nat.{ℕ, ◌+◌, ◌-◌, ◌*◌, ◌/◌, ◌^◌, ◌≤◌, ◌<◌, min}
use native.Mathlib.Decide.{ℕ_discrete}
use native.Mathlib.Omega.{arith}
use lib.ListN.{length, get_or, length-append}
use borrow.Author.Tests.{ne_eqb, le-leb, lt-leb}
use Rattle.std.specs.Prelude.{None, unwrap_or}
use Rattle.sequences.proofs.Below.{join-none, join_more}
use Rattle.sequences.proofs.Runs.{join_grows}
use Rattle.digits.proofs.Write.{whole_short, plain_free, plain-length, signed_below, signed_above}
use Rattle.digits.specs.Digits.{plain, plain_text, signed_text, number_text, blanks_left}
use Rattle.digits.specs.declared.Figure.{Figure}
use Rattle.digits.specs.declared.Form.{Form}
use Rattle.lines.proofs.Laws.{length-line_text}
use Rattle.lines.specs.Lines.{line_text}
use Rattle.text_rules.specs.declared.Field.{Field as LentField}
use Rattle.text_rules.specs.Tables.{Field, field_of, fields_of, field_at}
use Rattle.text_rules.specs.Head.{head_lines, opening_word, closing_word, tag_word, field_line, head_line, opening_rest, tag_size, most_letters}
use Rattle.text_rules.specs.Writing.{head_text}
use Rattle.text_rules.specs.Well.{most_decimals, most_digits, most_fields, field_well, fields_well}
use Rattle.text_rules.proofs.Well.{field_facts, field_made, fields_few}
use Rattle.text_head.proofs.Shape.{lent_is, fields_many}
use Rattle.text_head_writing.specs.Lines.{array_figure, whole_head, most_head_line, most_head}

-- ---- how long a number is
plain_short : (f : Form) (n : ℕ) → f.decimals ≤ most_decimals → unwrap_or f.digits 0 ≤ most_digits → length (plain_text f n) ≤ 30
plain_short f n l m =
    elim (ℕ_discrete f.decimals 0) [
      | yes e ↦ omega (arith, ap length (plain_free f n e), whole_short f.digits n m)
      | no h ↦ omega (arith, plain-length f n h (10 ^ f.decimals) refl, whole_short f.digits (n / 10 ^ f.decimals) m)
    ]

signed_short : (f : Form) (z : Figure) (b : Bool) → z.negative ≡ b → f.decimals ≤ most_decimals → unwrap_or f.digits 0 ≤ most_digits
    → length (signed_text f z) ≤ 31
signed_short f z true e l m = omega (arith, ap length (signed_below f z e), plain_short f z.size l m)
signed_short f z false e l m = omega (arith, ap length (signed_above f z e), plain_short f z.size l m)

number_free : (f : Form) (z : Figure) → f.width ≡ None → number_text f z ≡ signed_text f z
unfolding number_text blanks_left
number_free f z e = rw e refl

number_short : (f : Form) (z : Figure) → f.width ≡ None → f.decimals ≤ most_decimals → unwrap_or f.digits 0 ≤ most_digits → length (number_text f z) ≤ 31
number_short f z e l m = omega (arith, ap length (number_free f z e), signed_short f z z.negative refl l m)

-- ---- the line of a field
module _ (f : LentField) (z : Figure) (well : field_well (field_of f) ≡ true) where
  -- how its number may be written
  pub number_made : (f.form.decimals ≤ most_decimals) × (unwrap_or f.form.digits 0 ≤ most_digits)
  unfolding field_of
  number_made = let w = field_facts (field_of f) well in (w.decimals, w.digits)

  pub field_size : length (line_text (field_line (field_of f) z)) ≡ length f.name.now + (length (number_text f.form z) + 3)
  unfolding field_of field_line
  field_size = length-line_text (f.name.now ++ 61 ∷ number_text f.form z) ∙ omega (arith, length-append f.name.now (61 ∷ number_text f.form z))

  number_few : length (number_text f.form z) ≤ 31
  unfolding field_of
  number_few = let w = field_facts (field_of f) well in number_short f.form z w.free w.decimals w.digits

  pub field_short : length (line_text (field_line (field_of f) z)) ≤ most_head_line
  unfolding field_of
  field_short = omega (arith, field_size, number_few, (field_facts (field_of f) well).short)

-- ---- the field that the loop over the table and the figures has reached, and its figure
pub record Reached (fs : List Field) (figures : List Figure) (i : ℕ) (f : Field) (z : Figure) : Type 0 where
  pub low : i < length fs
  pub field : f ≡ field_at fs i
  pub well : field_well f ≡ true
  pub figure : z ≡ get_or figures i (plain 0)

module _ (table : List LentField) (fs : List Field) (e : fields_of table ≡ fs) (made : fields_well fs ≡ true) (figures : List Figure) (i : ℕ) where
  pub reached : (f : LentField) (z : Figure) → (i < length table) × (i < length figures) × ((d : LentField) → f ≡ get_or table i d) × ((d : Figure) → z ≡ get_or figures i d)
      → Reached fs figures i (field_of f) z
  reached f z t =
      let low : i < length fs = omega (arith, t.0, fields_many table fs e) in
      let same : field_of f ≡ field_at fs i = ap field_of (t.2 f) ∙ lent_is table fs e i f t.0 in
      record { low = low; field = same; well = subst⁻¹ (λ (x : Field). field_well x ≡ true) same (field_made fs made i low); figure = t.3 (plain 0) }

  -- the loop has gone through all fields: there are as many figures as fields at most
  pub all_reached : i ≡ min (length table) (length figures) → length figures ≡ most_fields → i ≡ length fs
  all_reached t l = omega (arith, t, fields_many table fs e, fields_few fs made)

-- ---- the lines one behind the other
module _ (fs : List Field) (letters : List ℕ) (figures : List Figure) where
  abbrev pub lines : ℕ → List ℕ
  lines k = head_text fs letters (array_figure figures) k

  abbrev pub line : ℕ → List ℕ
  line k = line_text (head_line fs letters (array_figure figures) k)

  -- one line more
  pub head_more : (k : ℕ) → lines (k + 1) ≡ lines k ++ line k
  unfolding head_text
  head_more k = join_more _ k

  -- and all lines before the last
  pub head_grows : (n k : ℕ) → k ≤ n → length (lines k) ≤ length (lines n)
  unfolding head_text
  head_grows n k h = join_grows _ n k h

  -- the first, that of a field, and the last
  pub first_is : lines 1 ≡ line_text (opening_word ++ (letters ++ closing_word))
  unfolding head_text head_line
  first_is = join_more _ 0 ∙ ap (λ (l : List ℕ). l ++ line 0) (join-none _)

  pub field_is : {i : ℕ} {f : Field} {z : Figure} → Reached fs figures i f z → line (i + 1) ≡ line_text (field_line f z)
  unfolding head_line
  field_is {i} r =
      let low = r.low in
      let back : i + 1 - 1 ≡ i = omega arith in
      rw (r.field, r.figure, ne_eqb (i + 1) 0 (λ z. omega arith), le-leb (i + 1) (length fs) (omega arith), back)

  pub last_is : line (length fs + 1) ≡ line_text tag_word
  unfolding head_line
  last_is = rw (ne_eqb (length fs + 1) 0 (λ z. omega arith), lt-leb (length fs + 1) (length fs) (omega arith))

  pub whole_is : whole_head fs letters figures ≡ lines (length fs + 1) ++ line_text tag_word
  unfolding head_lines
  whole_is =
      let many : length fs + 2 ≡ length fs + 1 + 1 = omega arith in
      ap lines many ∙ head_more (length fs + 1) ∙ ap (λ (l : List ℕ). lines (length fs + 1) ++ l) last_is

  -- so many bytes take the first k lines
  pub record Sized (n k : ℕ) : Type 0 where
    pub size : n ≡ length (lines k)
    pub small : n ≤ most_head_line * k

  pub sized_start : length letters ≤ most_letters → Sized (length letters + opening_rest) 1
  sized_start h =
      let first : length (lines 1) ≡ length letters + opening_rest =
      ap length first_is ∙ length-line_text (opening_word ++ (letters ++ closing_word)) ∙ omega (arith, length-append letters closing_word) in
      record { size = sym first; small = omega arith }

  pub sized_again : {n i m : ℕ} {f : Field} {z : Figure} → Sized n (i + 1) → Reached fs figures i f z → m ≡ length (line_text (field_line f z)) → m ≤ most_head_line
      → {j : ℕ} → j ≡ i + 1 → Sized (n + m) (j + 1)
  sized_again {n} {i} {m} v r long most next =
      rw next
      (record {
        size = rw (head_more (i + 1)) (omega (arith, v.size, long, ap length (field_is r), length-append (lines (i + 1)) (line (i + 1))));
        small = omega (arith, v.small);
      })

  pub sized_end : fields_well fs ≡ true → {n k : ℕ} → Sized n (k + 1) → k ≡ length fs → (n + tag_size ≡ length (whole_head fs letters figures)) × (n + tag_size ≤ most_head)
  sized_end made {n} {k} v e = (
    omega (arith, v.size, ap (λ (i : ℕ). length (lines (i + 1))) e, ap length whole_is, length-append (lines (length fs + 1)) (line_text tag_word), length-line_text tag_word),
    omega (arith, v.small, e, fields_few fs made),
  )
