use Rattle.std.proofs.Common.{rules, ◌≡◌, ℕ, ◌*◌, ◌/◌, ◌<◌, List, get_or, length, refl, ap, ◌∙◌, zero-le, length-append, arith}
use Rattle.std.proofs.Math.ListN.{replicate, get_or-replicate}
use Rattle.sequences.proofs.Chunks.{chunks_start, chunks_again}
use Rattle.totals.specs.Totals.{total}
use Rattle.totals.proofs.Cut.{chunk_at, all_blocks}
use Rattle.totals.proofs.Sums.{Counted, quick_none, quick_block, quick_end, counted_none, counted_low}
use Rattle.totals.proofs.add_blocks.Goals as goal

zeros : (t : List ℕ) (n w : ℕ) → t ≡ replicate n 0 → n ≡ w → (k : ℕ) → k < w → get_or t k 0 ≡ 0
zeros t n w e l k h = rw e (get_or-replicate n k 0 0 (omega (arith, h, l)))

pub loop-block-init : goal.loop-block-init
loop-block-init c = (
  chunks_start _ _ (cc) (cc) refl,
  quick_none _ _ _ (zeros _ _ _ (c.fill.ensures.after (λ y e. search rules)) c.requires.1),
)

pub loop-block-preserved : goal.loop-block-preserved
loop-block-preserved c =
    let l = c.loop-block in
    let v = l.invariant.0 in
    let step = c.in-Some.ensures.steps in
    rw length-append (
      chunks_again _ _ v _ _ step.1 step.0 refl,
      quick_block (length l.yielded) l.invariant.1 _ _ (omega arith) (chunk_at v _ _ step.1) (c.add_block.ensures.small c.if-not-add_block.false) c.add_block.ensures.sums,
    )

pub returns : goal.returns
returns c =
    let a = c.args.rows.now in
    let l = c.loop-block in
    let all : length l.yielded * 8 ≡ a.rows / 8 * 8 = all_blocks a.width a.rows l.invariant.0 a.whole c.in-None.ensures.steps.1.0 in
    let q : Counted l.totals a.run.now a.width (length l.yielded * 8) = quick_end l.invariant.1 (omega (arith, all)) in
    record { upper_bound = omega arith; sums = λ k h. q.same k h ∙ ap (λ (n : ℕ). total a.run.now a.width n k) all; low = counted_low q }

pub returns-then-not-add_block : goal.returns-then-not-add_block
returns-then-not-add_block c =
    let a = c.args.rows.now in
    let q : Counted c.fill-then-not-add_block.new.self a.run.now a.width 0 = counted_none _ _ _ (zeros _ _ _ (c.fill-then-not-add_block.ensures.after (λ y e. search rules)) (omega arith)) in
    record { upper_bound = zero-le; sums = q.same; low = counted_low q }
