-- What the tests of writing say of a list that passes them.
use mathlib.Core.Path.{◌≡◌, subst}
use mathlib.Core.Bool.{true, not, and-eq-true_iff}
use Prim.Native.Nat.{ℕ, ◌*◌, ◌≤◌, ◌<◌}
use native.Mathlib.Nat.{le_antisymm}
use native.Mathlib.Omega.{arith}
use lib.ListN.{length}
use borrow.Author.Tests.{ltb-false, eqb-true, not-false}
use Rattle.sequences.specs.Checks.{passes}
use Rattle.sequences.proofs.Below.{first-le, first_all}
use Rattle.sequences.proofs.Every.{every_at, inside_facts}
use Rattle.sequences.proofs.Checks.{passed_all}
use Rattle.sequences.proofs.Stretch.{within, stretch-length}
use Rattle.flags.specs.Table.{FlagTable, flag_count, table_fault}
use Rattle.fund.specs.Components.{component_fault}
use Rattle.layout.specs.Places.{most_components, component_width}
use Rattle.layout.specs.Components.{component_at, places_of}
use Rattle.fund.proofs.Laws.{ComponentRanges, components_fine}
use Rattle.layout.proofs.Components.{places_at}
use Rattle.rules.specs.Opening.{table_checks}
use Rattle.rules.proofs.SoundDay.{table_facts}
use Rattle.lines.specs.Lines.{name_byte, all_bytes}
use Rattle.text_rules.specs.Head.{is_letters}
use Rattle.list_rules.specs.Shanghai.{name_width}
use Rattle.list_rules.specs.Fields.{fields_in_range}
use Rattle.list_rules.specs.Writing.{Listing, name_at, sizes_fit, name_fault, write_fault, list_checks}

-- table, sizes, ranges, components and names
pub record Passing (t : FlagTable) (l : Listing) : Type 0 where
  pub loads : table_fault t ≡ flag_count
  pub some : 1 ≤ l.fields.count
  pub few : l.fields.count ≤ most_components
  pub run_length : length l.run ≡ component_width * l.fields.count
  pub names-length : length l.names ≡ name_width * l.fields.count
  pub ranges : fields_in_range l.fields ≡ true
  pub letters : is_letters l.letters ≡ true
  pub components :
      component_fault t l.fields.fund.first_code (places_of (component_at l.run) l.fields.count) l.fields.count
      ≡ l.fields.count
  pub names : name_fault l.names l.fields.count ≡ l.fields.count

pub passing : (t : FlagTable) (l : Listing) → passes (list_checks t l) ≡ true → Passing t l
unfolding list_checks table_checks sizes_fit write_fault component_fault name_fault
passing t l e =
    let all = passed_all (list_checks t l) e in
    let p = all.1 in
    let size = every_at _ (not-false (sizes_fit l) p.0) in
    let count = inside_facts 1 most_components l.fields.count (size 0) in
    let both = (and-eq-true_iff (fields_in_range l.fields) (is_letters l.letters)).0 (not-false _ p.1.0) in
    let low = ltb-false (write_fault t l) l.fields.count p.1.1.0 in
    record {
      loads = table_facts t (all.0, tt);
      some = count.0;
      few = count.1;
      run_length = eqb-true _ _ (size 1);
      names-length = eqb-true _ _ (size 2);
      ranges = both.0;
      letters = both.1;
      components = le_antisymm (first-le _ _) (omega arith);
      names = le_antisymm (first-le _ _) (omega arith);
    }

module _ (t : FlagTable) (l : Listing) (p : Passing t l) where
  -- each component is in its ranges
  pub component_fine : (j : ℕ) → j < l.fields.count → ComponentRanges t l.fields.fund.first_code (component_at l.run j)
  component_fine j h =
      subst (ComponentRanges t l.fields.fund.first_code) (places_at (component_at l.run) l.fields.count j h p.few)
      (components_fine t _ _ _ p.components j h)

  -- each name has as many bytes as it is to have, all of which a name may have
  pub name_fine : (j : ℕ) → j < l.fields.count → all_bytes name_byte (name_at l.names j) ≡ true
  unfolding name_fault
  name_fine j h = not-false _ (first_all (λ i. not (all_bytes name_byte (name_at l.names i))) l.fields.count p.names j h)

  pub name-length : (j : ℕ) → j < l.fields.count → length (name_at l.names j) ≡ name_width
  unfolding name_at
  name-length j h = stretch-length name_width l.names j (omega (arith, p.names-length, within name_width j l.fields.count h))
