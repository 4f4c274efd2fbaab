use Rattle.std.proofs.Common.{◌≡◌, ℕ, ◌+◌, ◌%◌, ◌^◌, get_or, ap, ◌∙◌, le_refl, length, arith}
use Rattle.totals.specs.Totals.{plus_block, total}
use Rattle.totals.proofs.Top.{add_wrapped}
use Rattle.totals.proofs.Pass.{pass_more, small_more}
use Rattle.totals.proofs.add_block.Goals as goal

pub loop-j-preserved : goal.loop-j-preserved
unfolding plus_block
loop-j-preserved c =
    let l = c.loop-j in
    let sums : ℕ → ℕ = total c.args.block.now (length c.args.totals.now) 8 in
    let sum : ℕ = c.column-sum.result.0 in
    let t : (get_or l.totals l.j 0 + sum) % 2 ^ 64 ≡ (get_or c.args.totals.now l.j 0 + sums l.j) % 2 ^ 64 =
    ap (λ (n : ℕ). (n + sum) % 2 ^ 64) (l.invariant.0.rest l.j (le_refl l.j))
    ∙ add_wrapped (get_or c.args.totals.now l.j 0) (sums l.j) sum c.column-sum.ensures.sum
    in (
      pass_more l.invariant.0 _ (omega arith) t,
      small_more sums l.j l.all c.column-sum.result.1 l.invariant.1 c.column-sum.ensures.or,
    )
