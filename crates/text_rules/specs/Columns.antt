-- A component line by a table of columns, each followed by "|": its parts (bytes by column) and its cells (numbers by column),
-- reading and writing.
use Rattle.std.specs.Prelude.{ℕ, ◌+◌, ◌-◌, Bool, true, false, cond, not, ◌&&◌, List, [], ◌∷◌, ◌++◌, eqb, length, get_or, take, drop, replicate, Option, Some}
use Rattle.sequences.specs.Below.{sum_below, all_below, first_below, join_below}
use Rattle.flags.specs.Table.{FlagTable, entry}
use Rattle.digits.specs.Bytes.{zero_byte}
use Rattle.digits.specs.declared.Form.{Form}
use Rattle.digits.specs.Digits.{plain, is_number, figure_of, number_text, all_blank}
use Rattle.lines.specs.Lines.{name_byte, all_bytes}
use Rattle.text_rules.specs.declared.Use.{Use}
use Rattle.text_rules.specs.declared.Use.TheVariants.{Always, ByFlag, Text}
use Rattle.text_rules.specs.declared.Column.{Column}
use Rattle.text_rules.specs.declared.Taken.{Taken}
use Rattle.text_rules.specs.Tables.{TextForm, column_at}

-- ---- where the columns stand, and how long the line is, without and with its 0D 0A
unfoldable pub column_width : List Column → ℕ → ℕ
column_width cs k = (column_at cs k).width

unfoldable pub column_start : List Column → ℕ → ℕ
column_start cs k = sum_below (λ i. column_width cs i + 1) k

unfoldable pub line_width : List Column → ℕ
line_width cs = column_start cs (length cs)

abbrev pub line_end : ℕ
line_end = 2

unfoldable pub line_pitch : List Column → ℕ
line_pitch cs = line_width cs + line_end

-- a column holds text or a number; how many numbers and how many bytes of text stand before column k, and in a whole line
unfoldable pub is_text : Use → Bool
is_text Always = false
is_text (ByFlag column) = false
is_text Text = true

unfoldable pub holds_text : List Column → ℕ → Bool
holds_text cs k = is_text (column_at cs k).used

unfoldable pub numbers_before : List Column → ℕ → ℕ
numbers_before cs k = sum_below (λ i. cond (holds_text cs i) 0 1) k

unfoldable pub words_before : List Column → ℕ → ℕ
words_before cs k = sum_below (λ i. cond (holds_text cs i) (column_width cs i) 0) k

unfoldable pub line_numbers : List Column → ℕ
line_numbers cs = numbers_before cs (length cs)

unfoldable pub line_words : List Column → ℕ
line_words cs = words_before cs (length cs)

-- what the columns before column k take of a line
unfoldable pub taken_before : List Column → ℕ → Taken
taken_before cs k = record { bytes = column_start cs k; numbers = numbers_before cs k; words = words_before cs k }

-- how many bytes a line has that takes so much, with its 0D 0A
abbrev pub taken_pitch : Taken → ℕ
taken_pitch taken = taken.bytes + line_end

-- ---- what a column has in a line with that flag: words, a number, or blanks
pub data Content : Type 0 where
  words_cell : Content
  number_cell : Content
  blank_cell : Content

unfoldable pub content_by : FlagTable → ℕ → Use → Content
content_by flags flag Always = number_cell
content_by flags flag (ByFlag column) = cond (entry flags flag column) number_cell blank_cell
content_by flags flag Text = words_cell

-- a column with that use has something to say in a line with that flag
unfoldable pub used_by : FlagTable → ℕ → Use → Bool
used_by flags flag Always = true
used_by flags flag (ByFlag column) = entry flags flag column
used_by flags flag Text = true

-- the form of a column's number in a width, or as long as it is, and in the column's own
abbrev pub column_form : Column → Option ℕ → Form
column_form c width = record { digits = c.digits; decimals = c.decimals; signed = false; width = width }

unfoldable pub number_form : Column → Form
number_form c = column_form c (Some c.width)

-- its characters are as they are to be written
unfoldable pub is_cell : Content → Column → List ℕ → Bool
is_cell words_cell c s = all_bytes name_byte s
is_cell number_cell c s = is_number (number_form c) s
is_cell blank_cell c s = all_blank s

-- the number that it says; 0 where it says none
unfoldable pub cell_of : Content → Column → List ℕ → ℕ
cell_of words_cell c s = 0
cell_of number_cell c s = (figure_of (number_form c) s).size
cell_of blank_cell c s = 0

-- its characters, from a number and from words
unfoldable pub cell_text : Content → Column → ℕ → List ℕ → List ℕ
cell_text words_cell c n s = s
cell_text number_cell c n s = number_text (number_form c) (plain n)
cell_text blank_cell c n s = replicate c.width 32

-- ---- reading a line

-- it has its width and its bars
unfoldable pub is_row : List Column → List ℕ → Bool
is_row cs l =
    eqb (length l) (line_width cs) && all_below (λ k. eqb (get_or l (column_start cs k + column_width cs k) 0) 124) (length cs)

-- the bytes of column k
unfoldable pub part_of : List Column → ℕ → List ℕ → List ℕ
part_of cs k l = take (column_width cs k) (drop (column_start cs k) l)

-- the flag's digit
unfoldable pub flag_of : TextForm → List ℕ → ℕ
flag_of t l = get_or l (column_start t.columns t.flag_at) 0 - zero_byte

unfoldable pub content_of : TextForm → List ℕ → ℕ → Content
content_of t l k = content_by t.flags (flag_of t l) (column_at t.columns k).used

-- column k is at fault
unfoldable pub wrong_cell : TextForm → List ℕ → ℕ → Bool
wrong_cell t l k = not (is_cell (content_of t l k) (column_at t.columns k) (part_of t.columns k l))

-- the first column at fault, their count where there is none
unfoldable pub column_fault : TextForm → List ℕ → ℕ
column_fault t l = first_below (wrong_cell t l) (length t.columns)

-- the number of column k, those of all columns that hold one, and the bytes of those that hold text
unfoldable pub cell_read : TextForm → List ℕ → ℕ → ℕ
cell_read t l k = cell_of (content_of t l k) (column_at t.columns k) (part_of t.columns k l)

unfoldable pub numbers_read : TextForm → List ℕ → List ℕ
numbers_read t l = join_below (λ k. cond (holds_text t.columns k) [] (cell_read t l k ∷ [])) (length t.columns)

unfoldable pub words_read : TextForm → List ℕ → List ℕ
words_read t l = join_below (λ k. cond (holds_text t.columns k) (part_of t.columns k l) []) (length t.columns)

-- ---- writing a line from the numbers and the words of its columns

unfoldable pub cell_at : List Column → List ℕ → ℕ → ℕ
cell_at cs numbers k = get_or numbers (numbers_before cs k) 0

unfoldable pub part_at : List Column → List ℕ → ℕ → List ℕ
part_at cs words k = take (column_width cs k) (drop (words_before cs k) words)

-- what column k has, by the flag among the numbers
unfoldable pub content_at : TextForm → List ℕ → ℕ → Content
content_at t numbers k = content_by t.flags (cell_at t.columns numbers t.flag_at) (column_at t.columns k).used

unfoldable pub column_text : TextForm → List ℕ → List ℕ → ℕ → List ℕ
column_text t numbers words k =
    cell_text (content_at t numbers k) (column_at t.columns k) (cell_at t.columns numbers k) (part_at t.columns words k)

unfoldable pub row_text : TextForm → List ℕ → List ℕ → List ℕ
row_text t numbers words = join_below (λ k. column_text t numbers words k ++ 124 ∷ []) (length t.columns)
