-- `text_head_writing::head_size` meets its contract. The loop's invariant: `n` bytes take the first line and those of the fields that
-- the loop has gone through.
use Prim.Native.Nat.{◌+◌}
use lib.ListN.{length}
use Rattle.text_head_writing.proofs.Sizes.{Sized}
use Rattle.text_head_writing.proofs.head_size.Given as goal

abbrev pub invariant-loop-field : goal.invariant-loop-field
invariant-loop-field l = Sized l.fields l.letters l.figures l.n (length l.yielded + 1)
