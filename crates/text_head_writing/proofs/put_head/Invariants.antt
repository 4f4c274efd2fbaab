-- `text_head_writing::put_head` meets its contract. The loop's invariant: the first line and those of the fields that the loop has
-- gone through are written, by the borrow that the writer was made with.
use mathlib.Core.Path.{◌≡◌}
use Prim.Native.Nat.{◌+◌}
use lib.ListN.{length}
use Rattle.text_head_writing.proofs.Write.{Lined}
use Rattle.text_head_writing.proofs.put_head.Given as goal

abbrev pub invariant-loop-field : goal.invariant-loop-field
invariant-loop-field l = record {
  lined : Lined l.fields l.letters l.figures l.fn.dst l.out (length l.yielded + 1);
  same_borrow : l.out.run.ghost_name ≡ l.initial.out.run.ghost_name;
}
