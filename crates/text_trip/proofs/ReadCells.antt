-- A column as it is read, by what it has: its number is below the cap, since it is narrow, and it is written again.
use Rattle.std.proofs.lemmas.Grind.{common_steps}
use mathlib.Core.Path.{◌≡◌, refl, sym, ap, ◌∙◌, subst}
use mathlib.Core.Bool.{Bool, true, false, true≢false}
use mathlib.Core.List.{List, [], ◌∷◌, ◌++◌}
use Prim.Native.Nat.{ℕ, ◌+◌, ◌-◌, ◌*◌, ◌≤◌, ◌<◌}
use native.Mathlib.Nat.{le_refl, pow-le-pow_right}
use native.Mathlib.Decide.{ℕ_discrete}
use native.Mathlib.Omega.{arith}
use lib.ListN.{length, take, drop, replicate, length-append, length-take, length-drop}
use borrow.Author.Tests.{eq-eqb, ne_eqb}
use Rattle.sequences.proofs.Every.{every_at}
use Rattle.digits.specs.declared.Form.{Form}
use Rattle.digits.specs.declared.Figure.{Figure}
use Rattle.digits.specs.Digits.{plain, cap, capped, from, all_digits, point_at, is_plain, plain_size, is_signed, signed_figure, trimmed_by, trimmed, is_number, figure_of, number_text}
use Rattle.digits.proofs.Read.{capped_small, whole_facts}
use Rattle.digits.proofs.Count.{digits-cons, from_below}
use Rattle.digits.proofs.Sign.{minus_unsigned}
use Rattle.digits.proofs.Trip.{number_again, figure_sign, blank_is}
use Rattle.lines.specs.Lines.{name_byte, all_bytes}
use Rattle.text_rules.specs.declared.Column.{Column}
use Rattle.text_rules.specs.Columns.{Content, words_cell, number_cell, blank_cell, number_form, is_cell, cell_of, cell_text}
use Rattle.text_rules.specs.Well.{most_width}
use Rattle.text_rules.proofs.Well.{WellColumn}
use Rattle.text_trip.proofs.Flag.{Holds}

-- digits read behind digits
from-append : (s r : List ℕ) (a : ℕ) → from a (s ++ r) ≡ from (from a s) r
unfolding from
from-append [] r a = refl
from-append (b ∷ s) r a = from-append s r (a * 10 + (b - 48))

digits_append : (s r : List ℕ) → all_digits s ≡ true → all_digits r ≡ true → all_digits (s ++ r) ≡ true
unfolding all_digits
digits_append [] r e f = f
digits_append (b ∷ s) r e f = let p = digits-cons b s e in rw (p.0, digits_append s r p.1 f)

-- so few digits are below the cap
digits_small : (s : List ℕ) → all_digits s ≡ true → length s ≤ most_width → capped (from 0 s) < cap
digits_small s e h = grind (arith, common_steps, pow-le-pow_right, from_below, capped_small)

-- with and without a point
plain_small : (f : Form) (s : List ℕ) → is_plain f s ≡ true → length s ≤ most_width → plain_size f s < cap
unfolding is_plain plain_size
plain_small f s e h = elim (ℕ_discrete f.decimals 0) [
  | yes z ↦ rw (eq-eqb f.decimals 0 z) (digits_small s (whole_facts f.digits s (rw (eq-eqb f.decimals 0 z) at e)).1 h)
  | no z ↦
      let p : ℕ = point_at f.decimals s in
      let at = every_at _ (rw (ne_eqb f.decimals 0 z) at e) in
      let front : all_digits (take p s) ≡ true = (whole_facts f.digits (take p s) (at 1)).1 in
      let size : length (take p s ++ drop (p + 1) s) ≤ most_width =
      omega (arith, length-append (take p s) (drop (p + 1) s), length-take p s, length-drop (p + 1) s) in
      rw (ne_eqb f.decimals 0 z)
      (subst (λ (n : ℕ). capped n < cap) (from-append (take p s) (drop (p + 1) s) 0)
      (digits_small (take p s ++ drop (p + 1) s) (digits_append (take p s) (drop (p + 1) s) front (at 3)) size))
]

-- without the blanks at the left
trimmed_short : (f : Form) (s : List ℕ) → length (trimmed f s) ≤ length s
unfolding trimmed trimmed_by
trimmed_short f s = grind (arith, common_steps, le_refl)

number_small : (f : Form) (s : List ℕ) → f.signed ≡ false → length s ≤ most_width → is_number f s ≡ true → (figure_of f s).size < cap
unfolding is_number figure_of is_signed signed_figure
number_small f s u h e = grind (arith, common_steps, minus_unsigned, plain_small, trimmed_short)

-- a number that is not below zero
plain_is : (z : Figure) → z.negative ≡ false → plain z.size ≡ z
plain_is z e = ap (λ (b : Bool). record { negative = b; size = z.size }) (sym e)

no_sign : (f : Form) (s : List ℕ) (b : Bool) → is_number f s ≡ true → f.signed ≡ false → (figure_of f s).negative ≡ b → b ≡ false
no_sign f s true e u q = absurd (true≢false (sym (figure_sign f s e q).0 ∙ u))
no_sign f s false e u q = refl

-- A column c that has the bytes s, as it is read.
module _ (c : Column) (s : List ℕ) where
  -- words are bytes of names
  pub cell_bytes : (x : Content) → Holds x true → is_cell x c s ≡ true → all_bytes name_byte s ≡ true
  unfolding is_cell
  cell_bytes words_cell h e = e
  cell_bytes number_cell h e = absurd (true≢false h)
  cell_bytes blank_cell h e = absurd (true≢false h)

  -- it is written again, from the number that it says and its words
  module _ (well : WellColumn c) (long : length s ≡ c.width) where
    number_written : is_number (number_form c) s ≡ true → number_text (number_form c) (plain (figure_of (number_form c) s).size) ≡ s
    unfolding number_form
    number_written e =
        ap (number_text (number_form c)) (plain_is (figure_of (number_form c) s) (no_sign (number_form c) s _ e refl refl))
        ∙ number_again (number_form c) s e (number_small (number_form c) s refl (omega (arith, well.narrow)) e) (λ w h. long ∙ cc)

    pub cell_again : (x : Content) (b : Bool) (n : ℕ) (r : List ℕ) → Holds x b → is_cell x c s ≡ true
        → (b ≡ false → n ≡ cell_of x c s) → (b ≡ true → r ≡ s) → cell_text x c n r ≡ s
    unfolding is_cell cell_of cell_text
    cell_again words_cell b n r h e number words = words h
    cell_again number_cell b n r h e number words = ap (λ (i : ℕ). number_text (number_form c) (plain i)) (number h) ∙ number_written e
    cell_again blank_cell b n r h e number words = ap (λ (i : ℕ). replicate i 32) (sym long) ∙ sym (blank_is s e)
