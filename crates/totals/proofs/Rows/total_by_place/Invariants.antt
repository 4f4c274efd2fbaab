-- `Rows::total_by_place` meets its contract. The loop's invariant: `Pass`, with the totals, as far as 2^62, at the places below `j`.
use Rattle.totals.specs.Totals.{capped_total}
use Rattle.totals.proofs.Pass.{Pass}
use Rattle.totals.proofs.Rows.total_by_place.Given as goal

abbrev pub invariant-loop-j : goal.invariant-loop-j
invariant-loop-j l = Pass l.initial.totals (capped_total l.self.run.now l.self.width l.self.rows) l.j l.totals
