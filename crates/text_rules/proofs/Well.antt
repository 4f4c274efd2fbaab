-- What a well-made table has.
use Rattle.std.proofs.lemmas.Grind.{common_steps}
use mathlib.Core.Path.{◌≡◌, refl, ap}
use mathlib.Core.Bool.{Bool, true, false, ◌||◌, and-eq-true_iff, true≢false, false≢true}
use mathlib.Core.List.{List}
use Prim.Native.Nat.{ℕ, ◌+◌, ◌≤◌, ◌<◌}
use native.Mathlib.Omega.{arith}
use Rattle.std.specs.Prelude.{Option, Some, None, is_none, unwrap_or}
use Rattle.std.proofs.lemmas.Option.{none-some}
use lib.Dec.{leb, ltb, eqb}
use lib.ListN.{length}
use borrow.Author.Tests.{leb-true, ltb-true, eqb-true, ne_eqb}
use Rattle.sequences.specs.Below.{all_below}
use Rattle.sequences.proofs.Below.{all_at}
use Rattle.sequences.proofs.Every.{every_at}
use Rattle.lines.specs.Lines.{other_byte, all_bytes}
use Rattle.text_rules.specs.declared.Use.{Use}
use Rattle.text_rules.specs.declared.Use.TheVariants.{Always, ByFlag, Text}
use Rattle.text_rules.specs.declared.Column.{Column}
use Rattle.text_rules.specs.Tables.{Field, TextForm, column_at, field_at}
use Rattle.text_rules.specs.Columns.{line_width}
use Rattle.text_rules.specs.Well.{most_width, most_line, most_decimals, most_digits, most_fields, digits_fill, column_well, columns_well, is_always, flag_well, field_well, fields_well, form_well}

-- the second of two tests, where the first fails
second : (a b : Bool) → (a || b) ≡ true → a ≡ false → b ≡ true
second true b e f = absurd (true≢false f)
second false b e f = e

-- so many digits fill their column
filled : (digits : Option ℕ) (width decimals : ℕ) → digits_fill digits width decimals ≡ true
    → (most : ℕ) → digits ≡ Some most → (most ≡ width) × (decimals ≡ 0)
unfolding digits_fill
filled None width decimals e most h = absurd (none-some most h)
filled (Some digits) width decimals e most h = grind (arith, common_steps)

pub record WellColumn (c : Column) : Type 0 where
  pub some : 0 < c.width
  pub narrow : c.width ≤ most_width
  pub digits : (most : ℕ) → c.digits ≡ Some most → (most ≡ c.width) × (c.decimals ≡ 0)
  pub point : (c.decimals ≡ 0 → ⊥) → (c.decimals ≤ most_decimals) × (c.decimals + 1 < c.width)

pub column_facts : (c : Column) → column_well c ≡ true → WellColumn c
unfolding column_well
column_facts c e =
    let at = every_at _ e in
    record {
      some = ltb-true _ _ (at 0);
      narrow = leb-true _ _ (at 1);
      digits = filled c.digits c.width c.decimals (at 2);
      point =
          λ h. let p = (and-eq-true_iff (leb c.decimals most_decimals) (ltb (c.decimals + 1) c.width)).0 (second (eqb c.decimals 0) _ (at 3) (ne_eqb _ _ h)) in
          (leb-true _ _ p.0, ltb-true _ _ p.1);
    }

module _ (cs : List Column) (well : columns_well cs ≡ true) where
  pub column_well_lem : (k : ℕ) → k < length cs → WellColumn (column_at cs k)
  unfolding columns_well
  column_well_lem k h = column_facts _ (all_at _ (length cs) ((and-eq-true_iff _ _).0 well).0 k h)

  pub line_short : line_width cs ≤ most_line
  unfolding columns_well
  line_short = leb-true _ _ ((and-eq-true_iff (all_below (λ k. column_well (column_at cs k)) (length cs)) _).0 well).1

-- the flag's column
pub record WellFlag (cs : List Column) (k : ℕ) : Type 0 where
  pub there : k < length cs
  pub width : (column_at cs k).width ≡ 1
  pub digits : (column_at cs k).digits ≡ Some 1
  pub always : (column_at cs k).used ≡ Always

is_always_lem : (u : Use) → is_always u ≡ true → u ≡ Always
unfolding is_always
is_always_lem Always e = refl
is_always_lem (ByFlag column) e = absurd (false≢true e)
is_always_lem Text e = absurd (false≢true e)

one_digit : (digits : Option ℕ) → unwrap_or digits 0 ≡ 1 → digits ≡ Some 1
one_digit None e = absurd (omega (arith, e))
one_digit (Some n) e = ap (λ (k : ℕ). Some k) e

pub flag_facts : (cs : List Column) (k : ℕ) → flag_well cs k ≡ true → WellFlag cs k
unfolding flag_well
flag_facts cs k e =
    let at = every_at _ e in
    record {
      there = ltb-true _ _ (at 0);
      width = eqb-true _ _ (at 1);
      digits = one_digit _ (eqb-true _ _ (at 2));
      always = is_always_lem _ (at 3);
    }

-- fields
pub record WellField (f : Field) : Type 0 where
  pub free : f.form.width ≡ None
  pub digits : unwrap_or f.form.digits 0 ≤ most_digits
  pub decimals : f.form.decimals ≤ most_decimals
  pub short : length f.name ≤ most_line
  pub clean : all_bytes other_byte f.name ≡ true

no_width : (width : Option ℕ) → is_none width ≡ true → width ≡ None
no_width None e = refl
no_width (Some n) e = absurd (false≢true e)

pub field_facts : (f : Field) → field_well f ≡ true → WellField f
unfolding field_well
field_facts f e =
    let at = every_at _ e in
    record {
      free = no_width _ (at 0);
      digits = leb-true _ _ (at 1);
      decimals = leb-true _ _ (at 2);
      short = leb-true _ _ (at 3);
      clean = at 4;
    }

module _ (fs : List Field) (well : fields_well fs ≡ true) where
  pub field_made : (k : ℕ) → k < length fs → field_well (field_at fs k) ≡ true
  unfolding fields_well
  field_made k h = all_at _ (length fs) ((and-eq-true_iff _ _).0 well).0 k h

  pub field_well_lem : (k : ℕ) → k < length fs → WellField (field_at fs k)
  field_well_lem k h = field_facts _ (field_made k h)

  pub fields_few : length fs ≤ most_fields
  unfolding fields_well
  fields_few = leb-true _ _ ((and-eq-true_iff (all_below (λ k. field_well (field_at fs k)) (length fs)) _).0 well).1

-- a form
pub record WellForm (t : TextForm) : Type 0 where
  pub fields : fields_well t.fields ≡ true
  pub columns : columns_well t.columns ≡ true
  pub flag : flag_well t.columns t.flag_at ≡ true

pub form_facts : (t : TextForm) → form_well t ≡ true → WellForm t
unfolding form_well
form_facts t e = let at = every_at _ e in record { fields = at 0; columns = at 1; flag = at 2 }
