-- The head of the text: its first line, the lines name=value by a table of fields, and TAGTAG. Its figures are the numbers by
-- field.
use Rattle.std.specs.Prelude.{ℕ, ◌+◌, ◌-◌, Bool, true, cond, ◌&&◌, List, [], ◌∷◌, ◌++◌, leb, eqb, length, get_or, take, drop}
use Rattle.sequences.specs.Every.{every, inside}
use Rattle.digits.specs.declared.Figure.{Figure}
use Rattle.digits.specs.Digits.{is_number, figure_of, number_text}
use Rattle.lines.specs.Words.{bytes}
use Rattle.lines.specs.Lines.{same, is_named, letter_byte, all_bytes}
use Rattle.text_rules.specs.Dates.{is_date}
use Rattle.text_rules.specs.declared.ValueKind.{ValueKind}
use Rattle.text_rules.specs.declared.ValueKind.TheVariants.{Any, Date, ZeroOrOne}
use Rattle.text_rules.specs.Tables.{Field, field_at}

-- all lines of the head
unfoldable pub head_lines : List Field → ℕ
head_lines fs = length fs + 2

unfoldable pub field_name : List Field → ℕ → List ℕ
field_name fs k = (field_at fs k).name

unfoldable pub is_kind : ValueKind → ℕ → Bool
is_kind Any v = true
is_kind Date v = is_date v
is_kind ZeroOrOne v = leb v 1

-- the characters of a field are as they are to be written
unfoldable pub is_field : Field → List ℕ → Bool
is_field f s = is_number f.form s && is_kind f.kind (figure_of f.form s).size

-- "[ETF", 1 to 8 letters or digits, "]"
abbrev pub most_letters : ℕ
most_letters = 8

-- where the letters start, and how many bytes stand beside them in their line
abbrev pub letters_start : ℕ
letters_start = 4

abbrev pub beside_letters : ℕ
beside_letters = 5

abbrev pub shortest_opening : ℕ
shortest_opening = 6

abbrev pub opening_word : List ℕ
opening_word = bytes "[ETF"

abbrev pub closing_word : List ℕ
closing_word = bytes "]"

unfoldable pub is_letters : List ℕ → Bool
is_letters s = inside 1 most_letters (length s) && all_bytes letter_byte s

unfoldable pub letters_of : List ℕ → List ℕ
letters_of l = take (length l - beside_letters) (drop letters_start l)

unfoldable pub is_opening : List ℕ → Bool
is_opening l =
    every
    (same (take letters_start l) opening_word
    ∷ is_letters (letters_of l)
    ∷ eqb (get_or l (length l - 1) 0) 93
    ∷ [])

-- the words before and behind the component lines
abbrev pub tag_word : List ℕ
tag_word = bytes "TAGTAG"

abbrev pub end_word : List ℕ
end_word = bytes "ENDENDEND"

-- how many bytes these lines take with their ends, the first beside its letters
abbrev pub opening_rest : ℕ
opening_rest = 7

abbrev pub tag_size : ℕ
tag_size = 8

abbrev pub end_size : ℕ
end_size = 11

-- line k of the head is the one that is to stand there
unfoldable pub is_head_line : List Field → ℕ → List ℕ → Bool
is_head_line fs k l = cond (eqb k 0) (is_opening l) (cond (leb k (length fs)) (is_named (field_name fs (k - 1)) l) (same l tag_word))

-- line k of the head as it is written, from the letters and the figures of the fields
unfoldable pub field_line : Field → Figure → List ℕ
field_line f z = f.name ++ 61 ∷ number_text f.form z

unfoldable pub head_line : List Field → List ℕ → (ℕ → Figure) → ℕ → List ℕ
head_line fs letters figure k =
    cond (eqb k 0) (opening_word ++ (letters ++ closing_word))
    (cond (leb k (length fs)) (field_line (field_at fs (k - 1)) (figure (k - 1))) tag_word)
