-- The table of fields that is lent: the k-th field is the k-th that is lent. Where the columns of a line stand.
use mathlib.Core.Path.{◌≡◌, refl}
use mathlib.Core.List.{List}
use Prim.Native.Nat.{ℕ, suc, ◌+◌, ◌≤◌, ◌<◌}
use native.Mathlib.Omega.{arith}
use lib.ListN.{length, get_or}
use Rattle.std.proofs.lemmas.List.{length-map, get_or-map}
use Rattle.sequences.specs.Below.{sum_below}
use Rattle.sequences.proofs.Below.{sum_grows}
use Rattle.text_rules.specs.declared.Column.{Column}
use Rattle.text_rules.specs.declared.Field.{Field as LentField}
use Rattle.text_rules.specs.Tables.{field_of, fields_of, no_field, field_at}
use Rattle.text_rules.specs.Columns.{column_width, column_start, line_width}

-- Fields.

pub fields-length : (fs : List LentField) → length (fields_of fs) ≡ length fs
unfolding fields_of
fields-length fs = length-map fs field_of

-- the k-th field is the k-th that is lent
pub field_lent : (fs : List LentField) (k : ℕ) (d : LentField) → k < length fs → field_at (fields_of fs) k ≡ field_of (get_or fs k d)
unfolding fields_of field_at
field_lent fs k d h = get_or-map field_of fs k d no_field h

-- Columns: each starts behind the bar of the one before it
module _ (cs : List Column) where
  pub start_first : column_start cs 0 ≡ 0
  unfolding column_start sum_below
  start_first = refl

  pub start_next : (k : ℕ) → column_start cs (suc k) ≡ column_start cs k + (column_width cs k + 1)
  unfolding column_start sum_below
  start_next k = refl

  pub start_line : (k : ℕ) → k ≤ length cs → column_start cs k ≤ line_width cs
  unfolding column_start line_width
  start_line k h = sum_grows (λ i. column_width cs i + 1) k (length cs) h

  -- and ends, with its bar, within the line
  pub end_line : (k : ℕ) → k < length cs → column_start cs k + column_width cs k < line_width cs
  end_line k h = omega (arith, start_line (suc k) h, start_next k)
