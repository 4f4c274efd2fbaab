-- The tables that a form of the text goes by: the columns of a component line and the fields of the head, whose names the code is
-- lent by reference.
use Rattle.std.specs.Prelude.{ℕ, false, List, [], get_or, map, None}
use Rattle.flags.specs.Table.{FlagTable}
use Rattle.digits.specs.declared.Form.{Form}
use Rattle.text_rules.specs.declared.Use.TheVariants.{Always}
use Rattle.text_rules.specs.declared.Column.{Column}
use Rattle.text_rules.specs.declared.ValueKind.{ValueKind}
use Rattle.text_rules.specs.declared.ValueKind.TheVariants.{Any}
use Rattle.text_rules.specs.declared.Field.{Field as LentField}

-- a field of the head: its name, the form of its number, and its kind
pub record Field : Type 0 where
  pub name : List ℕ
  pub form : Form
  pub kind : ValueKind

-- a form of the text: fields, columns, which column has the flag, and the flag table
pub record TextForm : Type 0 where
  pub fields : List Field
  pub columns : List Column
  pub flag_at : ℕ
  pub flags : FlagTable

-- a form as far as its component lines go
abbrev pub line_form : List Column → ℕ → FlagTable → TextForm
line_form columns flag_at flags = record { fields = []; columns = columns; flag_at = flag_at; flags = flags }

-- ---- a field that the code is lent has its name by reference
unfoldable pub field_of : LentField → Field
field_of f = record { name = f.name.now; form = f.form; kind = f.kind }

unfoldable pub fields_of : List LentField → List Field
fields_of fs = map field_of fs

-- ---- past the end of a table
abbrev pub no_column : Column
no_column = record { width = 0; digits = None; decimals = 0; used = Always }

abbrev pub no_field : Field
no_field = record { name = []; form = record { digits = None; decimals = 0; signed = false; width = None }; kind = Any }

unfoldable pub column_at : List Column → ℕ → Column
column_at cs k = get_or cs k no_column

unfoldable pub field_at : List Field → ℕ → Field
field_at fs k = get_or fs k no_field
