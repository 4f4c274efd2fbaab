use Rattle.std.proofs.Common.{◌≡◌, ℕ, ◌<◌, ◌+◌, ◌%◌, ◌^◌, get_or, ap, le_refl, length, arith}
use lib.Bits.{bit_or}
use Rattle.totals.specs.Totals.{plus_row}
use Rattle.totals.proofs.Top.{or_one}
use Rattle.totals.proofs.Pass.{pass_more, seen_more}
use Rattle.totals.proofs.add_row.Goals as goal

pub loop-j-preserved : goal.loop-j-preserved
unfolding plus_row
loop-j-preserved c =
    let l = c.loop-j in
    let x : ℕ = get_or c.args.row.now l.j 0 in
    let t : ℕ = (get_or l.totals l.j 0 + x) % 2 ^ 64 in
    let e : t ≡ (get_or c.args.totals.now l.j 0 + x) % 2 ^ 64 = ap (λ (n : ℕ). (n + x) % 2 ^ 64) (l.invariant.0.rest l.j (le_refl l.j)) in
    let i : l.j < length c.args.row.now = omega arith in (
      pass_more l.invariant.0 _ (omega (arith, i, c.requires.same_width)) e,
      seen_more _ l.j l.high (bit_or l.high (bit_or x t)) l.invariant.1
          (or_one l.high (get_or c.args.totals.now l.j 0) x t (c.requires.low l.j i) e),
    )
