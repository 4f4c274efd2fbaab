use mathlib.Core.Path.{refl, sym, ap, ◌∙◌}
use native.Mathlib.Omega.{arith}
use Rattle.driver_rows.specs.Lent.{left_work}
use mathlib.Core.List.{List, []}
use Prim.Native.Nat.{ℕ, ◌<◌}
use lib.ListN.{get_or}
use Rattle.driver.specs.Batch.{Batch, rows_in}
use Rattle.driver.proofs.Sizes.{fit_facts, run_refused, run_done}
use Rattle.driver.proofs.Going.{row_there, some_all, going_starts, going_sound, going_on, going_done}
use Rattle.driver.proofs.run_rows.Goals as goal

pub returns-then-not-rows_fit : goal.returns-then-not-rows_fit
returns-then-not-rows_fit c =
    let r = run_refused _ _ (sym c.rows_fit.ensures ∙ c.if-not-rows_fit.true) in
    record {
      result_value = r.0;
      work = ap (λ (b : Batch). left_work c.args.work.now b.work) r.1;
      answers = ap (λ (b : Batch). b.answers) r.1;
    }

pub loop-i-init : goal.loop-i-init
loop-i-init c = going_starts _ _ _ _ _ _ c.requires

pub row_call-reply-requires : goal.row_call-reply-requires
row_call-reply-requires c = record { known = some_all _ _ (going_sound _ _ _ _ _ _ _ _ _ c.loop-i.invariant) }

pub put_answer-requires : goal.put_answer-requires
put_answer-requires c =
    let g = c.loop-i.invariant in
    let facts = fit_facts _ _ (sym c.rows_fit.ensures ∙ c.if-not-rows_fit.false) in
    omega (arith, facts.1, g.answers, c.as_chunks.ensures.front_len)

pub loop-i-preserved : goal.loop-i-preserved
loop-i-preserved c =
    let g = c.loop-i.invariant in
    let inside : c.loop-i.i < rows_in c.args.rows.now = omega (arith, c.as_chunks.ensures.front_len) in
    let put = rw c.into.ensures at c.put_answer.ensures in
    let reply = c.row_call-reply.ensures in
    let row = ap (λ (rows : List (List ℕ)). get_or rows c.loop-i.i []) c.as_chunks.ensures.front ∙ row_there _ _ _ _ inside in
    going_on _ _ _ _ _ _ _ _ _ g _ inside row _ _ _ _ refl reply.left reply.result_value put

pub returns : goal.returns
returns c =
    let g = c.loop-i.invariant in
    let r = run_done _ _ _ (sym c.rows_fit.ensures ∙ c.if-not-rows_fit.false) (going_done _ _ _ _ _ _ _ _ _ g (omega (arith, c.as_chunks.ensures.front_len))) in
    record {
      result_value = r.0;
      work = g.same ∙ ap (λ (b : Batch). left_work c.args.work.now b.work) r.1;
      answers = ap (λ (b : Batch). b.answers) r.1;
    }
