-- `opening::open_book` meets its contract. The loop's invariant: the accounts so far are opened.
use Rattle.std.proofs.Common.{◌+◌}
use Rattle.sequences.proofs.Chunks.{ChunksFrom}
use Rattle.opening.proofs.Filled.{Filled}
use Rattle.opening.proofs.open_book.Given as goal

abbrev pub invariant-loop-a : goal.invariant-loop-a
invariant-loop-a l =
    ChunksFrom l.holdings (l.count + 2) l.a-iterator.iter.size l.a-iterator.iter.rest.now l.a-iterator.count
    × Filled l.count l.holdings l.accounts l.a-iterator.count l.book
