-- The component lines of the Shanghai form, computed: how many numbers and words they have.
use mathlib.Core.Path.{◌≡◌, refl}
use mathlib.Core.List.{List, append-nil}
use Prim.Native.Nat.{ℕ}
use native.Mathlib.Nat.{le_of_eq}
use lib.ListN.{length}
use lib.Seq.{take_all}
use Rattle.sequences.specs.Below.{sum_below, join_below}
use Rattle.flags.specs.Table.{FlagTable}
use Rattle.layout.specs.Places.{component_width}
use Rattle.text_rules.specs.Tables.{column_at}
use Rattle.text_rules.specs.Columns.{column_width, is_text, holds_text, numbers_before, words_before, line_numbers, line_words, part_of, words_read, part_at}
use Rattle.list_rules.specs.Shanghai.{shanghai, shanghai_columns, name_column, name_width}

-- its numbers are those of a component, and its words are the name
pub line_numbers_lem : line_numbers shanghai_columns ≡ component_width
unfolding shanghai_columns line_numbers numbers_before holds_text is_text column_at sum_below
line_numbers_lem = refl

pub line_words_lem : line_words shanghai_columns ≡ name_width
unfolding shanghai_columns line_words words_before holds_text is_text column_at column_width sum_below
line_words_lem = refl

pub words_name : (t : FlagTable) (l : List ℕ) → words_read (shanghai t) l ≡ part_of shanghai_columns name_column l
unfolding shanghai_columns words_read holds_text is_text column_at join_below
words_name t l = simp append-nil

pub part_name : (s : List ℕ) → length s ≡ name_width → part_at shanghai_columns s name_column ≡ s
unfolding shanghai_columns part_at words_before holds_text is_text column_at column_width sum_below
part_name s e = take_all name_width s (le_of_eq e)

pub name_width_lem : column_width shanghai_columns name_column ≡ name_width
unfolding shanghai_columns column_width column_at
name_width_lem = refl
