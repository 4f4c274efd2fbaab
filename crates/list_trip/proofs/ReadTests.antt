-- What the tests of reading say of a text that is read.
use mathlib.Core.Path.{◌≡◌, subst}
use mathlib.Core.Bool.{true, false, and-eq-true_iff}
use mathlib.Core.List.{List}
use Prim.Native.Nat.{ℕ, ◌≤◌}
use lib.Dec.{leb, ltb, eqb}
use borrow.Author.Tests.{leb-true, eqb-true, not-false}
use Rattle.sequences.specs.Every.{inside}
use Rattle.sequences.specs.Checks.{is_accepted, passes}
use Rattle.sequences.proofs.Below.{first_stops}
use Rattle.sequences.proofs.Every.{inside_facts}
use Rattle.sequences.proofs.Checks.{all_passed, passes_all}
use Rattle.flags.specs.Table.{FlagTable, flag_count, table_fault}
use Rattle.layout.specs.Places.{most_components}
use Rattle.fund.specs.Components.{component_fault}
use Rattle.rules.specs.Opening.{table_checks}
use Rattle.rules.proofs.SoundDay.{table_facts}
use Rattle.text_rules.specs.Reading.{row_count, shape_checks, field_checks, figure_read}
use Rattle.list_rules.specs.Shanghai.{shanghai, shanghai_shape, shanghai_fields, creation_code_field}
use Rattle.list_rules.specs.Fields.{fields_in_range}
use Rattle.list_rules.specs.Reading.{fields_read, is_counted, read_fault, range_checks, read_checks, read_reply}

pub record Reads (t : FlagTable) (text : List ℕ) : Type 0 where
  pub loads : table_fault t ≡ flag_count
  pub shape : passes (shape_checks shanghai_shape text) ≡ true
  pub fields : passes (field_checks (shanghai t) text) ≡ true
  pub counted : is_counted (fields_read text).count (row_count shanghai_shape text) ≡ true
  pub creation : 1 ≤ (figure_read shanghai_fields text creation_code_field).size
  pub ranges : fields_in_range (fields_read text) ≡ true
  pub fault : read_fault t text ≡ row_count shanghai_shape text

module _ (t : FlagTable) (text : List ℕ) where
  fault_end : ltb (read_fault t text) (row_count shanghai_shape text) ≡ false → read_fault t text ≡ row_count shanghai_shape text
  unfolding read_fault component_fault
  fault_end e = first_stops _ (row_count shanghai_shape text) e

  -- a text is read where all this is so
  pub reads : (room : ℕ) → is_accepted (read_reply t text room) ≡ true → Reads t text
  unfolding read_reply read_checks table_checks shape_checks field_checks range_checks
  reads room e =
      let all = all_passed (read_checks t text room) _ tt e in
      let p = all.1 in
      let q = p.1.1.1 in
      let v = q.1.1 in
      let r = (and-eq-true_iff (leb 1 (figure_read shanghai_fields text creation_code_field).size) (fields_in_range (fields_read text))).0 (not-false _ v.1.0) in
      record {
        loads = table_facts t (all.0, tt);
        shape = passes_all (shape_checks shanghai_shape text) (p.0, (p.1.0, (p.1.1.0, tt)));
        fields = passes_all (field_checks (shanghai t) text) (q.0, (q.1.0, tt));
        counted = not-false _ v.0;
        creation = leb-true _ _ r.0;
        ranges = r.1;
        fault = fault_end v.1.1.0;
      }

  -- there is a component line, not too many, and as many as the count says
  pub count_read : Reads t text → (1 ≤ row_count shanghai_shape text) × (row_count shanghai_shape text ≤ most_components) × ((fields_read text).count ≡ row_count shanghai_shape text)
  unfolding is_counted
  count_read r =
      let p = (and-eq-true_iff (inside 1 most_components (fields_read text).count) (eqb (fields_read text).count (row_count shanghai_shape text))).0 r.counted in
      let same = eqb-true _ _ p.1 in
      let within = inside_facts 1 most_components (fields_read text).count p.0 in
      (subst (λ (n : ℕ). 1 ≤ n) same within.0, subst (λ (n : ℕ). n ≤ most_components) same within.1, same)
