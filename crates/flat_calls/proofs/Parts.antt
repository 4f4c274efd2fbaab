-- A part of the text as its two numbers, stored at the front of a run.
use mathlib.Core.Path.{◌≡◌}
use mathlib.Core.List.{List, [], ◌∷◌}
use Prim.Native.Nat.{ℕ, ◌≤◌, ◌<◌}
use lib.ListN.{length, set}
use borrow.Author.Tests.{le-leb, lt-leb}
use Rattle.sequences.proofs.Runs.{sets_front}
use Rattle.list_rules.specs.declared.TextPart.{TextPart}
use Rattle.flat_calls.specs.Text.{part_width, part_kept}

module _ (p : TextPart) (run : List ℕ) where
  pub part_stored : part_width ≤ length run → set (set run 0 p.place) 1 p.length ≡ part_kept p run
  unfolding part_kept
  part_stored room = rw (le-leb part_width (length run) room) (sets_front (p.place ∷ p.length ∷ []) run room)

  pub part_left : length run < part_width → run ≡ part_kept p run
  unfolding part_kept
  part_left short = rw (lt-leb part_width (length run) short)
