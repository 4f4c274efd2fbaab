-- What is read of the characters of a column that holds a number.
use Rattle.std.specs.Prelude.{ℕ, Bool, false, cond, List, Option, Some}
use Rattle.digits.specs.declared.Form.{Form}
use Rattle.digits.specs.Digits.{all_blank, is_number, figure_of, size_reading}

-- a number right in a column of any width: so many digits, or as many as there are, and so many decimals
unfoldable pub right_form : Option ℕ → ℕ → Form
right_form digits decimals = record { digits = digits; decimals = decimals; signed = false; width = Some 1 }

-- what is read of a number's characters
unfoldable pub number_size : Form → List ℕ → Option ℕ
number_size f s = size_reading (is_number f s) (figure_of f s).size

-- what is read of a column: its number where it is used, and else its blanks
unfoldable pub cell_size : Bool → Option ℕ → ℕ → List ℕ → Option ℕ
cell_size used digits decimals s = cond used (number_size (right_form digits decimals) s) (size_reading (all_blank s) 0)
