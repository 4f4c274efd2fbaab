-- `words_fault`: the first of the lines as they are cut.
use Prim.Native.Nat.{ℕ, ◌+◌, ◌-◌, ◌*◌, ◌/◌, ◌≤◌}
use mathlib.Core.Path.{◌≡◌, ap, ◌∙◌}
use mathlib.Core.Bool.{Bool, not}
use mathlib.Core.List.{List}
use native.Mathlib.Nat.{add-sub_cancel_left}
use lib.ListN.{length, take, drop}
use lib.Seq.{drop-drop}
use Rattle.std.specs.List.{position_or_len}
use Rattle.sequences.specs.Below.{below}
use Rattle.sequences.proofs.Below.{first_same}
use Rattle.sequences.proofs.Stretch.{part_within}
use Rattle.lines.specs.Lines.{name_byte, all_bytes}
use Rattle.text_rows.specs.Words.{words_fault}
use Rattle.text_rows.proofs.Pieces.{pieces, pieces_length, first_piece}

-- the words of a line as the code has them are none
abbrev pub words_wrong_in : ℕ → ℕ → List ℕ → Bool
words_wrong_in from width line = not (all_bytes name_byte (take (from + width - from) (drop from line)))

pub words_first : (rows : List ℕ) (pitch from width : ℕ) → from + width ≤ pitch
    → below (length (pieces pitch (length rows / pitch) rows)) (position_or_len (words_wrong_in from width) (pieces pitch (length rows / pitch) rows))
    ≡ below (length rows / pitch) (words_fault rows pitch from width (length rows / pitch))
unfolding words_fault
words_first rows pitch from width room =
    rw (pieces_length, first_piece, add-sub_cancel_left from width)
    (ap (below (length rows / pitch))
    (first_same _ _ (length rows / pitch)
    (λ j h.
    ap (λ (l : List ℕ). not (all_bytes name_byte l))
    (part_within from width pitch (drop (j * pitch) rows) room ∙ ap (take width) (drop-drop from (j * pitch) rows)))))
