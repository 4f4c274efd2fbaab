-- What the code has found at each stage of reading, and the facts that follow.
use mathlib.Core.Path.{◌≡◌, refl, sym, ap, ap₂, ◌∙◌}
use mathlib.Core.Bool.{Bool, true, false, cond, not, and-eq-true_iff}
use mathlib.Core.List.{List}
use Prim.Native.Nat.{ℕ, zero, suc, ◌≤◌, ◌<◌}
use native.Mathlib.Omega.{arith}
use lib.Dec.{ltb, eqb}
use lib.ListN.{length, get_or, drop}
use borrow.Author.Tests.{lt-ltb, le-ltb, eqb-true}
use Rattle.std.proofs.Common.{Option, Some, None, Ok, Err}
use Rattle.sequences.specs.Checks.{passes}
use Rattle.sequences.specs.Below.{below}
use Rattle.sequences.specs.Every.{inside}
use Rattle.sequences.proofs.Below.{table_at, first_same, first_stops, below_none_fact}
use Rattle.sequences.proofs.Stretch.{within}
use Rattle.sequences.proofs.Every.{every_at, inside_facts}
use Rattle.layout.specs.Places.{most_components}
use Rattle.layout.specs.declared.Component.{Component}
use Rattle.layout.specs.Components.{blank, component_at, places_of}
use Rattle.layout.proofs.Components.{places_at}
use Rattle.flags.specs.Table.{FlagTable, flag_count, table_fault}
use Rattle.fund.specs.Components.{fits, code_before, fault_at, component_fault}
use Rattle.rules.specs.Opening.{table_checks}
use Rattle.rules.proofs.SoundDay.{table_facts}
use Rattle.digits.specs.declared.Figure.{Figure}
use Rattle.digits.specs.Digits.{plain}
use Rattle.digits.proofs.Trip.{figure_capped}
use Rattle.list_rules.specs.Fields.{fields_from}
use Rattle.list_rules.proofs.Fields.{fields_same}
use Rattle.text_rules.specs.Columns.{line_pitch}
use Rattle.lines.specs.Lines.{ended}
use Rattle.text_rules.specs.Head.{is_opening, letters_start}
use Rattle.text_lines.proofs.Opening.{letters_count}
use Rattle.text_rules.specs.Reading.{line_of, line_stands, letters_read, body_start, row_count, row_of}
use Rattle.text_rules.specs.Reading.{field_checks, wrong_field, figure_read, wrong_row, column_place}
use Rattle.text_rules.specs.Well.{most_fields}
use Rattle.text_head.specs.declared.HeadFields.{HeadFields}
use Rattle.text_head.specs.Head.{figures_found, fields_found}
use Rattle.list_rules.specs.Shanghai.{shanghai, shanghai_shape, shanghai_fields, shanghai_columns, field_count, count_field}
use Rattle.list_rules.specs.Reading.{fields_read, components_run, line_component, is_counted, read_fault, name_read, name_from, letters_place}
use Rattle.list_rows.specs.Rows.{line_code_before, line_fault, lines_fault, rows_tested}
use Rattle.list_rules.proofs.Lent.{fields_count}
use Rattle.list_trip.proofs.ComponentsRead.{components_read}
use Rattle.list_trip.proofs.NamePlaces.{name_found}
use Rattle.list_rules.specs.declared.Rows.{Rows}
use Rattle.list_rules.specs.declared.ListFields.{ListFields}
use Rattle.list_shape.specs.Shape.{RowsStand}
use Rattle.list_reading.specs.Stages.{first_code, Spelled, Ranged}
use Rattle.list_reading.proofs.Replies.{field_wrong, row_wrong, field_facts, fields_pass}

-- what a test's answer says of it
ok_cond : {T E : Type 0} (b : Bool) (e : E) (x : T) {y : T} → Ok y ≡ cond b (Err e) (Ok x) → (b ≡ false) × (y ≡ x)
ok_cond true e x q = absurd (cc)
ok_cond false e x q = (refl, cc)

err_cond : {T E : Type 0} (b : Bool) (e : E) (x : T) {y : E} → Err y ≡ cond b (Err e) (Ok x) → (b ≡ true) × (y ≡ e)
err_cond true e x q = (refl, cc)
err_cond false e x q = absurd (cc)

-- a table with no fault loads
pub table_loads : (t : FlagTable) → None ≡ below flag_count (table_fault t) → table_fault t ≡ flag_count
unfolding table_checks
table_loads t e = table_facts t (le-ltb (table_fault t) flag_count (below_none_fact flag_count (table_fault t) e), tt)

-- the component lines of a text whose fields are well written, and counted
pub rows_right : (t : FlagTable) (text : List ℕ) → passes (field_checks (shanghai t) text) ≡ true → wrong_row (shanghai t) text ≡ row_count shanghai_shape text
unfolding wrong_row row_count body_start
rows_right t text well = first_stops _ (row_count shanghai_shape text) (field_facts t text well).1

pub counted_facts : (n count : ℕ) → is_counted n count ≡ true → (n ≡ count) × (count ≤ most_components)
unfolding is_counted
counted_facts n count counted =
    let said = (and-eq-true_iff (inside 1 most_components n) (eqb n count)).0 counted in
    let same = eqb-true n count said.1 in
    (same, omega (arith, (inside_facts 1 most_components n said.0).1, same))

pub rows_few : {t : FlagTable} {text : List ℕ} {rows : Rows} {fields : ListFields} → Ranged t text rows fields → rows.count ≤ most_components
rows_few v = omega (arith, (counted_facts _ _ v.counted).1, v.stand.count_is)

-- the test of the component lines, where no column is at fault and where one is
module _ (t : FlagTable) (g : ℕ) (text : List ℕ) where
  pub tested_right : {fault : Option ℕ} → Ok fault ≡ rows_tested t g text → (row_wrong t text ≡ false) × (fault ≡ below (row_count shanghai_shape text) (lines_fault t g text))
  unfolding rows_tested
  tested_right e = ok_cond _ _ _ e

  pub tested_wrong : {place : ℕ} → Err place ≡ rows_tested t g text → (row_wrong t text ≡ true) × (place ≡ column_place (shanghai t) text (wrong_row (shanghai t) text))
  unfolding rows_tested
  tested_wrong e = err_cond _ _ _ e

-- the figures found of a text whose fields are well written
pub fields_right : (text : List ℕ) (head : HeadFields) → Ok head ≡ fields_found shanghai_fields text → field_wrong text ≡ false
unfolding fields_found
fields_right text head e = grind arith

module _ (t : FlagTable) (text : List ℕ) (well : passes (field_checks (shanghai t) text) ≡ true) where
  wrong_none : wrong_field shanghai_fields text ≡ field_count
  unfolding wrong_field
  wrong_none = first_stops _ (length shanghai_fields) (field_facts t text well).0 ∙ fields_count

  module _ (figures : List Figure) (e : figures ≡ figures_found shanghai_fields text) where
    figure_is : (k : ℕ) → k < field_count → get_or figures k (plain 0) ≡ figure_read shanghai_fields text k
    unfolding figures_found
    figure_is k h =
        ap (λ (l : List Figure). get_or l k (plain 0)) e
        ∙ table_at (λ i. cond (ltb i (wrong_field shanghai_fields text)) (figure_read shanghai_fields text i) (plain 0)) most_fields k (plain 0) (omega arith)
        ∙ rw (wrong_none, lt-ltb k field_count h)

    spelled_by : table_fault t ≡ flag_count → (r : Rows) → RowsStand text r → Spelled t text r figures
    unfolding fields_read fields_from figure_read
    spelled_by loads r s =
        record {
          loads = loads;
          stand = s;
          fields_well_lem = well;
          figures_are = figure_is;
          small = λ k h. rw (figure_is k h) (figure_capped _ _);
          fields_are = fields_same _ _ figure_is;
          count_is = ap (λ (z : Figure). z.size) (figure_is count_field (omega arith));
        }

module _ (text : List ℕ) (r : Rows) (s : RowsStand text r) where
  -- the name's part of the text is that of the line
  pub name_is : (j : ℕ) → j < r.count → name_from text r.start j ≡ name_read text j
  name_is j h =
      rw s.start_is
      (name_found text s.lines_stand j (omega (arith, s.count_is)) (omega (arith, s.start_is, s.room, within (line_pitch shanghai_columns) j r.count h)))

  module _ (t : FlagTable) (head : HeadFields) (e : Ok head ≡ fields_found shanghai_fields text) (right : row_wrong t text ≡ false) where
    pub spelled : table_fault t ≡ flag_count → Spelled t text r head.figures
    unfolding fields_found
    spelled loads = spelled_by t text (fields_pass t text (fields_right text head e) right) head.figures (grind arith) loads r s

  -- by the first code that the code has
  pub first_found : (t : FlagTable) (figures : List Figure) {g : ℕ} → g ≡ first_code figures → {fault : Option ℕ} → fault ≡ below (row_count shanghai_shape text) (lines_fault t g text)
      → fault ≡ below r.count (lines_fault t (first_code figures) text)
  first_found t figures same e = e ∙ rw (same, s.count_is) refl

-- The first component at fault is that of the component lines, in a text with as many lines as a day has places.

module _ (t : FlagTable) (text : List ℕ) (few : row_count shanghai_shape text ≤ most_components) where
  abbrev places : List Component
  places = places_of (component_at (components_run t text)) (row_count shanghai_shape text)

  place_is : (j : ℕ) → j < row_count shanghai_shape text → get_or places j blank ≡ line_component t (row_of shanghai_shape text j)
  place_is j h = places_at (component_at (components_run t text)) (row_count shanghai_shape text) j h few ∙ components_read t text j h

  code_is : (j : ℕ) → j < row_count shanghai_shape text → code_before places j ≡ line_code_before t text j
  unfolding code_before line_code_before
  code_is zero h = refl
  code_is (suc j) h = ap (λ (c : Component). Some c.code) (place_is j (omega arith))

  same_fault : (g : ℕ) → component_fault t g places (row_count shanghai_shape text) ≡ lines_fault t g text
  unfolding component_fault fault_at lines_fault line_fault
  same_fault g = first_same _ _ (row_count shanghai_shape text) (λ j h. ap₂ (λ (p : Option ℕ) (c : Component). not (fits t g p c)) (code_is j h) (place_is j h))

pub fault_found : {t : FlagTable} {text : List ℕ} {rows : Rows} {figures : List Figure} → Spelled t text rows figures → (n : ℕ) → is_counted n rows.count ≡ true
    → {fault : Option ℕ} → fault ≡ below rows.count (lines_fault t (first_code figures) text) → fault ≡ below rows.count (read_fault t text)
unfolding read_fault fields_from
fault_found {t} {text} {rows} {figures} v n counted e =
    let few : row_count shanghai_shape text ≤ most_components = omega (arith, (counted_facts n rows.count counted).1, v.stand.count_is) in
    let first : first_code figures ≡ (fields_read text).fund.first_code = ap (λ (l : ListFields). l.fund.first_code) v.fields_are in
    e ∙ ap (below rows.count) (ap (λ (g : ℕ). lines_fault t g text) first ∙ sym (same_fault t text few (fields_read text).fund.first_code))

-- the letters' place: there are some just where the first line is an opening one
module _ (text : List ℕ) where
  opening_some : line_stands is_opening text 0 ≡ true → 1 ≤ length (letters_read text)
  unfolding letters_read line_stands is_opening
  opening_some h =
      rw h (letters_count _ (every_at _ ((and-eq-true_iff (ended (drop 0 text)) (is_opening (line_of text 0))).0 h).1 1)).0

  opening_none : line_stands is_opening text 0 ≡ false → length (letters_read text) ≡ 0
  unfolding letters_read
  opening_none h = rw h

  pub letters_none : length (letters_read text) ≡ 0 → letters_place text ≡ record { place = 0; length = 0 }
  unfolding letters_place
  letters_none n = grind (arith, opening_some)

  pub letters_some : 1 ≤ length (letters_read text) → letters_place text ≡ record { place = letters_start; length = length (letters_read text) }
  unfolding letters_place
  letters_some n = grind (arith, opening_none)
