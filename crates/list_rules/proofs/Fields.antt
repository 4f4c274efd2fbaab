-- The fields of a list and the figures of its head say the same.
use mathlib.Core.Path.{◌≡◌, refl, sym, ap, ap₂, ◌∙◌, subst⁻¹}
use mathlib.Core.Bool.{Bool, true, false, cond, ◌||◌}
use mathlib.Core.Logic.{◌⊎◌, ⊎_elim}
use Prim.Native.Nat.{ℕ, ◌+◌, ◌-◌, ◌≤◌, ◌<◌}
use native.Mathlib.Nat.{add-sub_cancel}
use native.Mathlib.Omega.{arith}
use lib.Dec.{eqb}
use lib.ListN.{length, get_or}
use borrow.Author.Tests.{eqb-true, eqb-false}
use Rattle.sequences.specs.Below.{tabulate}
use Rattle.sequences.proofs.Below.{table_length, table_at, table_ext}
use Rattle.sequences.proofs.Every.{false_of}
use Rattle.layout.specs.Places.{limit_count}
use Rattle.digits.specs.declared.Figure.{Figure}
use Rattle.digits.specs.Digits.{plain}
use Rattle.list_rules.specs.declared.ListFields.{ListFields}
use Rattle.digits.specs.Signed.{signed_of, figure_signed}
use Rattle.digits.proofs.Signed.{signed_figure_lem, figure_signed_lem}
use Rattle.list_rules.specs.Shanghai.{field_count, creation_code_field, estimated_cash_field, cash_component_field, limits_field}
use Rattle.list_rules.specs.Fields.{fields_from, figure_at}

-- a figure that is not negative
figure_plain : (z : Figure) (n : ℕ) → (z.negative ≡ true → ⊥) → n ≡ z.size → plain n ≡ z
figure_plain z n h e = ap₂ {C = Figure} (λ (b : Bool) (m : ℕ). record { negative = b; size = m }) (sym (false_of z.negative h)) e

-- Fields and back.

-- the limits of the figures of the fields
limits_back : (l : ListFields) → length l.fund.limits ≡ limit_count → tabulate (λ k. (figure_at l (limits_field + k)).size) limit_count ≡ l.fund.limits
unfolding figure_at tabulate
limits_back l e = sym (table_ext (λ k. get_or l.fund.limits k 0) limit_count 0 l.fund.limits e (λ k h. refl))

-- the fields of the figures of the fields
pub fields_figures : (l : ListFields) → length l.fund.limits ≡ limit_count → fields_from (figure_at l) ≡ l
unfolding fields_from figure_at
fields_figures l e = simp (add-sub_cancel, signed_figure_lem, limits_back l e)

-- Figures and back.

-- the fields look at no figure but those of the table
fields_table : (f : ℕ → Figure) → fields_from f ≡ fields_from (λ k. get_or (tabulate f field_count) k (plain 0))
unfolding fields_from tabulate
fields_table f = refl

-- two functions that agree below n
table_same : (f g : ℕ → Figure) (n : ℕ) → ((k : ℕ) → k < n → f k ≡ g k) → tabulate f n ≡ tabulate g n
table_same f g n h = table_ext g n (plain 0) (tabulate f n) (table_length f n) (λ k l. table_at f n k (plain 0) l ∙ h k l)

-- figures that agree say the same fields
pub fields_same : (f g : ℕ → Figure) → ((k : ℕ) → k < field_count → f k ≡ g k) → fields_from f ≡ fields_from g
fields_same f g h =
    fields_table f
    ∙ ap (λ t. fields_from (λ k. get_or t k (plain 0))) (table_same f g field_count h)
    ∙ sym (fields_table g)

-- what the k-th figure z is after its way through the fields: two keep their sign, and of the code of creation the fields hold one less
abbrev returned : ℕ → Figure → Figure
returned k z = cond (eqb k estimated_cash_field || eqb k cash_component_field) (figure_signed (signed_of z)) (plain (cond (eqb k creation_code_field) (z.size - 1 + 1) z.size))

figures_returned : (f : ℕ → Figure) → tabulate (figure_at (fields_from f)) field_count ≡ tabulate (λ k. returned k (f k)) field_count
unfolding tabulate figure_at fields_from
figures_returned f = refl

module _ (k : ℕ) (z : Figure) (first : k ≡ creation_code_field → 1 ≤ z.size)
    (sign : z.negative ≡ true → ((k ≡ estimated_cash_field) ⊎ (k ≡ cash_component_field)) × (0 < z.size)) where
  size_returned : (b : Bool) → eqb k creation_code_field ≡ b → cond b (z.size - 1 + 1) z.size ≡ z.size
  size_returned true p = let low : 1 ≤ z.size = first (eqb-true k creation_code_field p) in omega arith
  size_returned false p = refl

  -- the way changes nothing
  figure_returned : (b c : Bool) → eqb k estimated_cash_field ≡ b → eqb k cash_component_field ≡ c
      → cond (b || c) (figure_signed (signed_of z)) (plain (cond (eqb k creation_code_field) (z.size - 1 + 1) z.size)) ≡ z
  figure_returned true c p q = figure_signed_lem z (λ h. (sign h).1)
  figure_returned false true p q = figure_signed_lem z (λ h. (sign h).1)
  figure_returned false false p q =
      figure_plain z _
      (λ h. ⊎_elim (eqb-false k estimated_cash_field p) (eqb-false k cash_component_field q) (sign h).0)
      (size_returned (eqb k creation_code_field) refl)

-- the figures of the fields of figures, where only those two may be negative, and only above zero
pub figures_fields : (figure : ℕ → Figure) → 1 ≤ (figure creation_code_field).size
    → ((k : ℕ) → k < field_count → (figure k).negative ≡ true → ((k ≡ estimated_cash_field) ⊎ (k ≡ cash_component_field)) × (0 < (figure k).size))
    → (k : ℕ) → k < field_count → figure_at (fields_from figure) k ≡ figure k
figures_fields figure first sign k l =
    sym (table_at (figure_at (fields_from figure)) field_count k (plain 0) l)
    ∙ ap (λ t. get_or t k (plain 0)) (figures_returned figure)
    ∙ table_at (λ i. returned i (figure i)) field_count k (plain 0) l
    ∙ figure_returned k (figure k) (λ e. subst⁻¹ (λ (i : ℕ). 1 ≤ (figure i).size) e first) (sign k l) _ _ refl refl
