-- Which lines stand in a text, and where, is the same under every flag table.
use mathlib.Core.Path.{◌≡◌, refl}
use mathlib.Core.List.{List}
use Prim.Native.Nat.{ℕ}
use Rattle.flags.specs.Table.{FlagTable}
use Rattle.text_rules.specs.Reading.{body_start, row_start, row_count, end_start, shape_checks}
use Rattle.list_rules.specs.Shanghai.{shanghai, shanghai_shape}

module _ (t : FlagTable) (text : List ℕ) where
  pub body_same : body_start (shanghai t) text ≡ body_start shanghai_shape text
  unfolding body_start
  body_same = refl

  pub count_same : row_count (shanghai t) text ≡ row_count shanghai_shape text
  unfolding row_count body_start
  count_same = refl

  pub checks_same : shape_checks (shanghai t) text ≡ shape_checks shanghai_shape text
  unfolding shape_checks end_start row_start row_count body_start
  checks_same = refl
