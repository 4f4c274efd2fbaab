-- What refusal 18's tests found of a text.
use Rattle.std.specs.Prelude.{ℕ, ◌+◌, ◌*◌, ◌≤◌, ◌≡◌, true, false, List, Result, MatchResult, length}
use Rattle.sequences.specs.Checks.{reply, answered, passes}
use Rattle.text_rules.specs.Columns.{line_pitch}
use Rattle.text_rules.specs.Head.{head_lines}
use Rattle.text_rules.specs.Reading.{wrong_line, body_start, row_count, shape_checks}
use Rattle.list_rules.specs.Shanghai.{shanghai_shape, shanghai_fields, shanghai_columns}
use Rattle.list_rules.specs.declared.Rows.{Rows}

-- the component lines of a text whose lines all stand
pub record RowsStand (text : List ℕ) (r : Rows) : Type 0 where
  pub head_stands : wrong_line shanghai_fields text ≡ head_lines shanghai_fields
  pub start_is : r.start ≡ body_start shanghai_shape text
  pub count_is : r.count ≡ row_count shanghai_shape text
  pub room : r.start + r.count * line_pitch shanghai_columns ≤ length text
  pub lines_stand : passes (shape_checks shanghai_shape text) ≡ true

-- the place of the first wrong line
pub record LineWrong (text : List ℕ) (place : ℕ) : Type 0 where
  pub line_stops : passes (shape_checks shanghai_shape text) ≡ false
  pub place_is : answered (shape_checks shanghai_shape text) 0 ≡ reply 18 place 0

-- what refusal 18's tests found of a text
abbrev pub Shaped : List ℕ → Result Rows ℕ → Type 0
Shaped text r = MatchResult r (RowsStand text) (LineWrong text)
