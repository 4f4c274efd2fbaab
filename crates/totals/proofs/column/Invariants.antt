-- `totals::column` meets its contract. The loop's invariant: the sum of the first `i` rows, wrapped, and that no number is above the or.
use Rattle.std.proofs.Common.{◌≡◌, ℕ, ◌*◌, ◌%◌, ◌^◌, ◌≤◌}
use Rattle.totals.specs.Totals.{total}
use Rattle.totals.proofs.column.Given as goal

abbrev pub invariant-loop-i : goal.invariant-loop-i
invariant-loop-i l =
    (l.sum ≡ total l.block l.width l.i l.place % 2 ^ 64) × ((m : ℕ) → l.all ≤ m → total l.block l.width l.i l.place ≤ l.i * m)
