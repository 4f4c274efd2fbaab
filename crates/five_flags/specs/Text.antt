-- Reading and writing in the Shanghai form by what each column has in a line, whatever says it. By the flag table that is given these
-- are the definitions of crate list_rules, and by document 01's five rows they are what they were before a table could be given.
use Rattle.std.specs.Prelude.{ℕ, ◌+◌, ◌*◌, min, Bool, true, cond, not, ◌&&◌, List, [], ◌∷◌, ◌++◌, leb, ltb, length, drop}
use Rattle.sequences.specs.Below.{first_below, join_below}
use Rattle.sequences.specs.Checks.{Check, check, Reply, answered}
use Rattle.digits.specs.Written.{put}
use Rattle.lines.specs.Lines.{line_text}
use Rattle.layout.specs.declared.Component.{Component}
use Rattle.layout.specs.Components.{component_at, places_of}
use Rattle.layout.specs.Places.{component_width}
use Rattle.rules.specs.Replies.{if_accepted}
use Rattle.text_rules.specs.declared.Use.{Use}
use Rattle.text_rules.specs.declared.Use.TheVariants.{Always, ByFlag, Text}
use Rattle.text_rules.specs.Tables.{column_at}
use Rattle.text_rules.specs.Head.{head_lines, end_word, is_letters}
use Rattle.text_rules.specs.Columns.{Content, words_cell, number_cell, blank_cell, is_cell, cell_of, cell_text}
use Rattle.text_rules.specs.Columns.{column_start, holds_text, part_of, flag_of, cell_at, part_at}
use Rattle.text_rules.specs.Reading.{body_start, row_start, row_count, row_of, shape_checks, field_start, wrong_field, figure_read}
use Rattle.text_rules.specs.Writing.{numbers_at, words_at, head_text}
use Rattle.list_rules.specs.declared.ListFields.{ListFields}
use Rattle.list_rules.specs.Shanghai.{shanghai_shape, shanghai_columns, shanghai_fields, flag_column, creation_code_field}
use Rattle.list_rules.specs.Fields.{figure_at, fields_in_range, blank_fields}
use Rattle.list_rules.specs.Reading.{fields_read, is_counted}
use Rattle.list_rules.specs.Writing.{Listing, sizes_fit, name_fault}
use Rattle.five_flags.specs.Rows.{six_columns, five_entry}

-- ---- what a column with that use has in a line with that flag, by document 01's five rows
unfoldable pub five_content : ℕ → Use → Content
five_content flag Always = number_cell
five_content flag (ByFlag column) = cond (five_entry flag column) number_cell blank_cell
five_content flag Text = words_cell

-- whether it has something to say
unfoldable pub five_used : ℕ → Use → Bool
five_used flag Always = true
five_used flag (ByFlag column) = five_entry flag column
five_used flag Text = true

-- a use by the flag names one of the six columns
unfoldable pub names_column : Use → Bool
names_column Always = true
names_column (ByFlag column) = ltb column six_columns
names_column Text = true

-- the use of column k of a component line
abbrev pub use_of : ℕ → Use
use_of k = (column_at shanghai_columns k).used

-- what reading and writing give: the answer, and what is handed back and left
pub record ReadOutcome : Type 0 where
  pub answer : Reply
  pub fields : ListFields
  pub first : ℕ
  pub run : List ℕ

pub record WriteOutcome : Type 0 where
  pub answer : Reply
  pub output : List ℕ

-- how 3 finds the first component at fault
abbrev pub Fault : Type 0
Fault = ℕ → List Component → ℕ → ℕ

-- `content flag k` is what column k has in a line with that flag
module _ (content : ℕ → ℕ → Content) where
  -- ---- reading
  unfoldable pub content_in : List ℕ → ℕ → Content
  content_in l k = content (flag_of shanghai_shape l) k

  unfoldable pub column_fault : List ℕ → ℕ
  column_fault l =
      first_below (λ k. not (is_cell (content_in l k) (column_at shanghai_columns k) (part_of shanghai_columns k l))) (length shanghai_columns)

  unfoldable pub numbers_read : List ℕ → List ℕ
  numbers_read l =
      join_below
      (λ k. cond (holds_text shanghai_columns k) [] (cell_of (content_in l k) (column_at shanghai_columns k) (part_of shanghai_columns k l) ∷ []))
      (length shanghai_columns)

  unfoldable pub run_read : List ℕ → List ℕ
  run_read text = join_below (λ j. numbers_read (row_of shanghai_shape text j)) (row_count shanghai_shape text)

  unfoldable pub wrong_row : List ℕ → ℕ
  wrong_row text =
      first_below (λ j. ltb (column_fault (row_of shanghai_shape text j)) (length shanghai_columns)) (row_count shanghai_shape text)

  unfoldable pub field_checks : List ℕ → List Check
  field_checks text =
      check (ltb (wrong_field shanghai_fields text) (length shanghai_fields)) 19 (field_start shanghai_fields text (wrong_field shanghai_fields text))
      ∷ check (ltb (wrong_row text) (row_count shanghai_shape text)) 19
      (row_start shanghai_shape text (wrong_row text) + column_start shanghai_columns (column_fault (row_of shanghai_shape text (wrong_row text))))
      ∷ []

  unfoldable pub read_fault : Fault → List ℕ → ℕ
  read_fault fault text =
      fault (fields_read text).fund.first_code (places_of (component_at (run_read text)) (row_count shanghai_shape text))
      (row_count shanghai_shape text)

  unfoldable pub range_checks : Fault → List ℕ → List Check
  range_checks fault text =
      check (not (is_counted (fields_read text).count (row_count shanghai_shape text))) 20 0
      ∷ check (not (leb 1 (figure_read shanghai_fields text creation_code_field).size && fields_in_range (fields_read text))) 2 0
      ∷ check (ltb (read_fault fault text) (row_count shanghai_shape text)) 3 (read_fault fault text)
      ∷ []

  -- a text, with a lent component run; `fault` is 3's, and `tests` come before all others
  unfoldable pub reading : Fault → List Check → List ℕ → List ℕ → ReadOutcome
  reading fault tests text run =
      let rows = row_count shanghai_shape text in
      let room = check (ltb (length run) (component_width * rows)) 16 0 ∷ [] in
      let answer = answered (tests ++ (shape_checks shanghai_shape text ++ (field_checks text ++ (range_checks fault text ++ room)))) rows in
      record {
        answer = answer;
        fields = if_accepted answer (fields_read text) blank_fields;
        first = if_accepted answer (body_start shanghai_shape text) 0;
        run = if_accepted answer (run_read text ++ drop (component_width * rows) run) run;
      }

  -- ---- writing
  unfoldable pub row_text : List ℕ → List ℕ → List ℕ
  row_text numbers words =
      join_below
      (λ k. cell_text (content (cell_at shanghai_columns numbers flag_column) k) (column_at shanghai_columns k) (cell_at shanghai_columns numbers k)
      (part_at shanghai_columns words k) ++ 124 ∷ [])
      (length shanghai_columns)

  unfoldable pub text_of : Listing → List ℕ
  text_of l =
      head_text shanghai_fields l.letters (figure_at l.fields) (head_lines shanghai_fields)
      ++ (join_below (λ j. line_text (row_text (numbers_at shanghai_shape l.run j) (words_at shanghai_shape l.names j))) l.fields.count
      ++ line_text end_word)

  unfoldable pub write_fault : Fault → Listing → ℕ
  write_fault fault l =
      min
      (fault l.fields.fund.first_code (places_of (component_at l.run) l.fields.count) l.fields.count)
      (name_fault l.names l.fields.count)

  -- a list, with a lent output; the same of `fault` and `tests`
  unfoldable pub writing : Fault → List Check → Listing → List ℕ → WriteOutcome
  writing fault tests l output =
      let room = check (ltb (length output) (length (text_of l))) 16 0 ∷ [] in
      let checks =
      check (not (sizes_fit l)) 1 0
      ∷ check (not (fields_in_range l.fields && is_letters l.letters)) 2 0
      ∷ check (ltb (write_fault fault l) l.fields.count) 3 (write_fault fault l)
      ∷ room in
      let answer = answered (tests ++ checks) (length (text_of l)) in
      record { answer = answer; output = if_accepted answer (put output 0 (text_of l)) output }
