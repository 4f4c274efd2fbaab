-- What the stages of reading say to each other: what is known of the text after each of them.
use Rattle.std.specs.Prelude.{ℕ, ◌-◌, ◌≤◌, ◌<◌, ◌≡◌, true, ◌&&◌, List, leb, get_or}
use Rattle.sequences.specs.Checks.{passes}
use Rattle.flags.specs.Table.{FlagTable, flag_count, table_fault}
use Rattle.digits.specs.declared.Figure.{Figure}
use Rattle.digits.specs.Digits.{cap, plain}
use Rattle.text_rules.specs.Reading.{row_count, field_checks, figure_read}
use Rattle.list_rules.specs.declared.ListFields.{ListFields}
use Rattle.list_rules.specs.Shanghai.{shanghai, shanghai_shape, shanghai_fields, field_count, count_field, creation_code_field}
use Rattle.list_rules.specs.Fields.{fields_from, fields_in_range}
use Rattle.list_rules.specs.Reading.{fields_read, is_counted}
use Rattle.list_rules.specs.declared.Rows.{Rows}
use Rattle.list_shape.specs.Shape.{RowsStand}

-- the fund's first code by the head's figures
abbrev pub first_code : List Figure → ℕ
first_code figures = (get_or figures creation_code_field (plain 0)).size - 1

-- the table loads, the text's fields are all well written, and these are the head's figures
pub record Spelled (t : FlagTable) (text : List ℕ) (rows : Rows) (figures : List Figure) : Type 0 where
  pub loads : table_fault t ≡ flag_count
  pub stand : RowsStand text rows
  pub fields_well_lem : passes (field_checks (shanghai t) text) ≡ true
  pub figures_are : (k : ℕ) → k < field_count → get_or figures k (plain 0) ≡ figure_read shanghai_fields text k
  pub small : (k : ℕ) → k < field_count → (get_or figures k (plain 0)).size ≤ cap
  pub fields_are : fields_from (λ k. get_or figures k (plain 0)) ≡ fields_read text
  pub count_is : (get_or figures count_field (plain 0)).size ≡ (fields_read text).count

-- and the fields are in their ranges, and as many component lines stand as they say
pub record Ranged (t : FlagTable) (text : List ℕ) (rows : Rows) (fields : ListFields) : Type 0 where
  pub loads : table_fault t ≡ flag_count
  pub stand : RowsStand text rows
  pub fields_well_lem : passes (field_checks (shanghai t) text) ≡ true
  pub fields_are : fields ≡ fields_read text
  pub counted : is_counted (fields_read text).count (row_count shanghai_shape text) ≡ true
  pub ranged : (leb 1 (figure_read shanghai_fields text creation_code_field).size && fields_in_range (fields_read text)) ≡ true
