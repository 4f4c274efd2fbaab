-- `layout::lots_at` meets its contract: the lots of a line are the three numbers of its chunk.
use native.Mathlib.Omega.{arith}
use Rattle.layout.proofs.Account.{line_at}
use Rattle.layout.proofs.stretches.lots_at.Goals as goal

pub returns : goal.returns
returns c = line_at _ _ _ _ c.as_chunks.ensures.front (omega arith)
