-- The Shanghai form is well made and has so many fields, and so are its two tables.
use mathlib.Core.Path.{◌≡◌, refl}
use mathlib.Core.Bool.{true}
use mathlib.Core.List.{[]}
use lib.ListN.{length}
use Rattle.sequences.specs.Below.{sum_below, all_below}
use Rattle.sequences.specs.Every.{every}
use Rattle.flags.specs.Table.{FlagTable}
use Rattle.lines.specs.Lines.{other_byte, all_bytes}
use Rattle.text_rules.specs.Tables.{column_at, field_at}
use Rattle.text_rules.specs.Columns.{column_width, column_start, line_width}
use Rattle.text_rules.specs.Well.{digits_fill, column_well, columns_well, is_always, flag_well, field_well, fields_well, form_well}
use Rattle.text_rules.proofs.Well.{form_facts}
use Rattle.list_rules.specs.Shanghai.{shanghai, shanghai_shape, shanghai_columns, shanghai_fields, field_count, flag_column}

pub shanghai_well : (t : FlagTable) → form_well (shanghai t) ≡ true
unfolding form_well every fields_well field_well columns_well column_well digits_fill flag_well is_always shanghai_columns shanghai_fields
    column_at field_at all_below all_bytes other_byte line_width column_start column_width sum_below
shanghai_well t = refl

pub fields_count : length shanghai_fields ≡ field_count
unfolding shanghai_fields
fields_count = refl

pub shanghai_columns_well : columns_well shanghai_columns ≡ true
shanghai_columns_well = (form_facts shanghai_shape (shanghai_well [])).columns

pub shanghai_flag_well : flag_well shanghai_columns flag_column ≡ true
shanghai_flag_well = (form_facts shanghai_shape (shanghai_well [])).flag

pub shanghai_fields_well : fields_well shanghai_fields ≡ true
shanghai_fields_well = (form_facts shanghai_shape (shanghai_well [])).fields
