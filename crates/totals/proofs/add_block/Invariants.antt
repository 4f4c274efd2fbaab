-- `totals::add_block` meets its contract. The loop's invariant: `Pass`, with the places below `j` done, and `Small`: the eight numbers of
-- each of these places add up to at most eight times what the or is at most.
use Rattle.std.proofs.Common.{length}
use Rattle.totals.specs.Totals.{total, plus_block}
use Rattle.totals.proofs.Pass.{Pass, Small}
use Rattle.totals.proofs.add_block.Given as goal

abbrev pub invariant-loop-j : goal.invariant-loop-j
invariant-loop-j l =
    Pass l.initial.totals (plus_block l.initial.totals l.block) l.j l.totals × Small (total l.block (length l.initial.totals) 8) l.j l.all
