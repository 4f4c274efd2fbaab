-- What the code finds of words that stand in lines of one length.
use Rattle.std.specs.Prelude.{ℕ, ◌+◌, ◌*◌, not, List, take, drop}
use Rattle.sequences.specs.Below.{first_below}
use Rattle.lines.specs.Lines.{name_byte, all_bytes}

-- the first of n lines whose bytes from a place of the line on are no words, n where there is none
unfoldable pub words_fault : List ℕ → ℕ → ℕ → ℕ → ℕ → ℕ
words_fault rows pitch from width n = first_below (λ j. not (all_bytes name_byte (take width (drop (j * pitch + from) rows)))) n
