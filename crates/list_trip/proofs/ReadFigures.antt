-- The figures of a text that is read: the fields say them again, and a head is written from no others.
use mathlib.Core.Path.{◌≡◌, refl, ap, subst, ◌∙◌}
use mathlib.Core.Bool.{Bool, true, false, cond, ◌||◌, and-eq-true_iff}
use mathlib.Core.List.{List, ◌++◌}
use mathlib.Core.Logic.{◌⊎◌, ⊎_map}
use Prim.Native.Nat.{ℕ, zero, suc, ◌-◌, ◌<◌}
use native.Mathlib.Omega.{arith}
use lib.Dec.{leb, eqb}
use lib.ListN.{length}
use borrow.Author.Tests.{leb-true, eqb-true}
use Rattle.std.proofs.lemmas.Bool.{or_cases}
use Rattle.sequences.specs.Below.{all_below}
use Rattle.sequences.specs.Checks.{passes}
use Rattle.sequences.proofs.Below.{all_at}
use Rattle.flags.specs.Table.{FlagTable}
use Rattle.digits.specs.declared.Figure.{Figure}
use Rattle.digits.specs.Digits.{cap, is_number}
use Rattle.digits.proofs.Trip.{figure_sign}
use Rattle.lines.specs.Lines.{line_text}
use Rattle.text_rules.specs.Tables.{Field, field_at}
use Rattle.text_rules.specs.Head.{is_field, field_line, head_line, opening_word, closing_word, tag_word}
use Rattle.text_rules.specs.Reading.{word_of, figure_read}
use Rattle.text_rules.specs.Writing.{head_text}
use Rattle.text_trip.proofs.Below.{join-same}
use Rattle.text_trip.proofs.ReadTests.{reads as forms}
use Rattle.list_rules.specs.Shanghai.{shanghai, shanghai_fields, field_count, estimated_cash_field, cash_component_field}
use Rattle.list_rules.specs.Fields.{figure_at}
use Rattle.list_rules.specs.Reading.{fields_read}
use Rattle.list_rules.proofs.Fields.{figures_fields}
use Rattle.list_rules.proofs.Shape.{checks_same}
use Rattle.list_rules.proofs.Lent.{fields_count}
use Rattle.list_trip.proofs.ReadTests.{Reads, count_read}
use Rattle.list_trip.proofs.WrittenFields.{figure_small}

-- Heads from figures that agree.
module _ (fs : List Field) (letters : List ℕ) (f g : ℕ → Figure) (agree : (k : ℕ) → k < length fs → f k ≡ g k) where
  line_same : (k : ℕ) → head_line fs letters f k ≡ head_line fs letters g k
  unfolding head_line
  line_same zero = refl
  line_same (suc k) = ap (λ (s : List ℕ). cond (eqb (suc k) 0) (opening_word ++ (letters ++ closing_word)) s) (case (leb (suc k) (length fs)) refl)
    where
      case : (b : Bool) → leb (suc k) (length fs) ≡ b
          → cond b (field_line (field_at fs (suc k - 1)) (f (suc k - 1))) tag_word ≡ cond b (field_line (field_at fs (suc k - 1)) (g (suc k - 1))) tag_word
      case true p = ap (field_line (field_at fs (suc k - 1))) (agree (suc k - 1) (omega (arith, leb-true (suc k) (length fs) p)))
      case false p = refl

  pub head_same : (n : ℕ) → head_text fs letters f n ≡ head_text fs letters g n
  unfolding head_text
  head_same n = join-same _ _ n (λ k _. ap line_text (line_same k))

-- only two fields have a sign
signed_fields : (k : ℕ) → k < field_count → (field_at shanghai_fields k).form.signed ≡ true → (k ≡ estimated_cash_field) ⊎ (k ≡ cash_component_field)
unfolding all_below field_at shanghai_fields
signed_fields k h e =
    let all = all_at (λ i. cond (field_at shanghai_fields i).form.signed (eqb i estimated_cash_field || eqb i cash_component_field) true) field_count refl k h in
    ⊎_map (eqb-true k estimated_cash_field) (eqb-true k cash_component_field) (or_cases _ _ (rw e at all))

module _ (t : FlagTable) (text : List ℕ) (r : Reads t text) where
  field_number : (k : ℕ) → k < field_count → is_number (field_at shanghai_fields k).form (word_of shanghai_fields text k) ≡ true
  unfolding is_field
  field_number k h =
      ((and-eq-true_iff (is_number (field_at shanghai_fields k).form (word_of shanghai_fields text k)) _).0
      ((forms (shanghai t) text (ap passes (checks_same t text) ∙ r.shape) r.fields).fields k (omega (arith, fields_count)))).0

  -- the fields say the figures that were read
  pub figures_again : (k : ℕ) → k < field_count → figure_at (fields_read text) k ≡ figure_read shanghai_fields text k
  unfolding fields_read figure_read
  figures_again =
      figures_fields (figure_read shanghai_fields text) r.creation
      (λ k h n.
      let p = figure_sign (field_at shanghai_fields k).form (word_of shanghai_fields text k) (field_number k h) n in
      (signed_fields k h p.0, p.1))

  -- which are below the cap
  pub figures_small : (k : ℕ) → k < field_count → (figure_read shanghai_fields text k).size < cap
  figures_small k h =
      let p = count_read t text r in
      subst (λ (z : Figure). z.size < cap) (figures_again k h)
      (figure_small (fields_read text) r.ranges (omega (arith, p.1, p.2)) k (omega (arith, fields_count)))
