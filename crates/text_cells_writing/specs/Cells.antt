-- What a number column's cell holds in a line.
use Rattle.std.specs.Prelude.{ℕ, Bool, cond, List, [], ◌∷◌, ◌++◌, replicate}
use Rattle.digits.specs.Digits.{plain, number_text}
use Rattle.text_rules.specs.declared.Column.{Column}
use Rattle.text_rules.specs.Columns.{number_form}

-- a number where the column is used, and blanks where it is not, with the bar
unfoldable pub used_text : Bool → Column → ℕ → List ℕ
used_text used c n = cond used (number_text (number_form c) (plain n)) (replicate c.width 32) ++ 124 ∷ []
