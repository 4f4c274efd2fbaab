use Rattle.std.proofs.Common.{◌≡◌, ℕ, ◌+◌, length, refl, sym, ap, ◌∙◌, length-append, arith}
use Rattle.sequences.proofs.Chunks.{chunks_start, chunks_again}
use Rattle.totals.specs.Totals.{capped_total}
use Rattle.totals.proofs.Cut.{chunk_at, all_rows}
use Rattle.totals.proofs.Sums.{capped_none, capped_more}
use Rattle.totals.proofs.Rows.total_at.Goals as goal

pub loop-row-init : goal.loop-row-init
loop-row-init c = (chunks_start _ _ (cc) (cc) refl, sym (capped_none _ _ _), omega arith)

pub loop-row-preserved : goal.loop-row-preserved
loop-row-preserved c =
    let a = c.args in
    let l = c.loop-row in
    let v = l.invariant.0 in
    let step = c.in-Some.ensures.steps in
    let sum : c.min-sum.result ≡ capped_total a.self.now.run.now a.self.now.width (length l.yielded + 1) a.place = omega (
      arith,
      c.min-sum.ensures,
      l.invariant.1,
      c.saturating_add.ensures,
      chunk_at v _ _ step.1 a.place c.requires,
      capped_more a.self.now.run.now a.self.now.width (length l.yielded) a.place,
    ) in
    rw length-append (chunks_again _ _ v _ _ step.1 step.0 refl, sum, omega (arith, c.min-sum.ensures))

pub returns : goal.returns
returns c =
    let l = c.loop-row in
    let a = c.args.self.now in
    let all = all_rows l.invariant.0 a.rows a.whole c.in-None.ensures.steps.1.0 in
    record { value = l.invariant.1 ∙ ap (λ (n : ℕ). capped_total a.run.now a.width n c.args.place) all; small = l.invariant.2 }
