-- The head as the code writes it, from its table and an array of figures.
use Rattle.std.specs.Prelude.{ℕ, List, get_or}
use Rattle.digits.specs.declared.Figure.{Figure}
use Rattle.digits.specs.Digits.{plain}
use Rattle.text_rules.specs.Tables.{Field}
use Rattle.text_rules.specs.Head.{head_lines}
use Rattle.text_rules.specs.Writing.{head_text}

-- the figures of an array
abbrev pub array_figure : List Figure → ℕ → Figure
array_figure figures i = get_or figures i (plain 0)

-- the whole head
abbrev pub whole_head : List Field → List ℕ → List Figure → List ℕ
whole_head fs letters figures = head_text fs letters (array_figure figures) (head_lines fs)

-- how many bytes a line of the head and the head take at most
abbrev pub most_head_line : ℕ
most_head_line = 1_100

abbrev pub most_head : ℕ
most_head = 30_000
