-- What is found of the component lines of a text in the Shanghai form, under a flag table.
use Rattle.std.specs.Prelude.{ℕ, zero, suc, ◌+◌, ◌*◌, ◌≡◌, Bool, cond, not, List, ltb, length, take, drop, Option, Some, None, Result, Ok, Err, MatchResult}
use Rattle.sequences.specs.Below.{first_below, below}
use Rattle.layout.specs.declared.Component.{Component}
use Rattle.flags.specs.Table.{FlagTable}
use Rattle.fund.specs.Components.{fits}
use Rattle.text_rules.specs.Columns.{line_pitch, wrong_cell, column_fault, cell_read}
use Rattle.text_rules.specs.Reading.{body_start, row_count, row_of, wrong_row, column_place}
use Rattle.list_rules.specs.declared.ListColumn.{ListColumn}
use Rattle.list_rules.specs.Shanghai.{shanghai, shanghai_shape, shanghai_columns}
use Rattle.list_rules.specs.Places as places
use Rattle.list_rules.specs.Reading.{line_component}

-- the bytes of the component lines
unfoldable pub rows_of : List ℕ → List ℕ
rows_of text = take (row_count shanghai_shape text * line_pitch shanghai_columns) (drop (body_start shanghai_shape text) text)

-- the columns of a line before column k are right
abbrev pub RightBefore : FlagTable → List ℕ → ℕ → Type 0
RightBefore t l k = first_below (wrong_cell (shanghai t) l) k ≡ k

-- what is read of a column with a number behind these: that it is right too, and its number, or that it is the first at fault
abbrev pub NumberRead : FlagTable → List ℕ → ListColumn → Result ℕ ListColumn → Type 0
NumberRead t l column r =
    MatchResult r (λ v. RightBefore t l (places.column_place column + 1) × (v ≡ cell_read (shanghai t) l (places.column_place column)))
    (λ k. places.column_place k ≡ column_fault (shanghai t) l)

-- what is read of one line: its component where no column is at fault, else the first column that is
abbrev pub LineRead : FlagTable → List ℕ → Result Component ListColumn → Type 0
LineRead t l r =
    MatchResult r (λ c. (column_fault (shanghai t) l ≡ length shanghai_columns) × (c ≡ line_component t l)) (λ k. places.column_place k ≡ column_fault (shanghai t) l)

-- the code of the line before the j-th; none before the first
unfoldable pub line_code_before : FlagTable → List ℕ → ℕ → Option ℕ
line_code_before t text zero = None
line_code_before t text (suc j) = Some (line_component t (row_of shanghai_shape text j)).code

-- refusal 3 at the j-th line, in a fund with the first code g
unfoldable pub line_fault : FlagTable → ℕ → List ℕ → ℕ → Bool
line_fault t g text j = not (fits t g (line_code_before t text j) (line_component t (row_of shanghai_shape text j)))

-- the first line at fault by refusal 3, their count where there is none
unfoldable pub lines_fault : FlagTable → ℕ → List ℕ → ℕ
lines_fault t g text = first_below (line_fault t g text) (row_count shanghai_shape text)

-- the place of the first column at fault by refusal 19; where there is none, the first line at fault by refusal 3
unfoldable pub rows_tested : FlagTable → ℕ → List ℕ → Result (Option ℕ) ℕ
rows_tested t g text =
    cond (ltb (wrong_row (shanghai t) text) (row_count shanghai_shape text)) (Err (column_place (shanghai t) text (wrong_row (shanghai t) text)))
    (Ok (below (row_count shanghai_shape text) (lines_fault t g text)))
