-- The names of a text whose lines stand: each is the words of its line.
use mathlib.Core.Path.{◌≡◌, sym, ◌∙◌}
use mathlib.Core.Bool.{true}
use mathlib.Core.List.{List}
use Prim.Native.Nat.{ℕ, ◌<◌}
use borrow.Author.Tests.{lt-ltb}
use Rattle.sequences.specs.Checks.{passes}
use Rattle.flags.specs.Table.{FlagTable}
use Rattle.text_rules.specs.Columns.{part_of}
use Rattle.text_rules.specs.Reading.{body_start, row_start, row_count, row_of, shape_checks, texts_read}
use Rattle.text_trip.proofs.Below.{join-same}
use Rattle.list_rules.specs.Shanghai.{shanghai, shanghai_shape, shanghai_columns, name_column}
use Rattle.list_rules.specs.Reading.{name_read}
use Rattle.list_trip.specs.Trips.{names_read}
use Rattle.list_trip.proofs.Form.{words_name}

module _ (text : List ℕ) (shape : passes (shape_checks shanghai_shape text) ≡ true) where
  pub name_read_lem : (j : ℕ) → j < row_count shanghai_shape text → name_read text j ≡ part_of shanghai_columns name_column (row_of shanghai_shape text j)
  unfolding name_read
  name_read_lem j h = rw (shape, lt-ltb j (row_count shanghai_shape text) h)

  pub names_texts : (t : FlagTable) → names_read text ≡ texts_read (shanghai t) text
  unfolding names_read texts_read row_count row_of row_start body_start
  names_texts t = join-same _ _ (row_count shanghai_shape text) (λ j h. name_read_lem j h ∙ sym (words_name t (row_of shanghai_shape text j)))
