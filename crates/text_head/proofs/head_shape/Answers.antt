-- `text_head::head_shape` meets its contract: a line that stands lets the next one follow, and the first that does not is the answer.
use mathlib.Core.Path.{◌≡◌}
use native.Mathlib.Omega.{arith}
use Rattle.std.proofs.Common.{rules, length}
use Rattle.text_head.proofs.Shape.{past, fields_many, head_first, head_named, head_tag, lines_are, shape_start, shape_on, shape_off, shape_end}
use Rattle.text_head.proofs.head_shape.Goals as goal

pub returns-in_err-at : goal.returns-in_err-at
returns-in_err-at c =
    let h = shape_off c.args.fields.now c.args.text.now _ _ (shape_start _ _) (omega (arith, lines_are _ _ c.table-table.ensures.value)) _
    (c.pass_line.ensures _ (λ l b f. search (rules, head_first c.args.fields.now l))) _ c.in_err-at.was in
    search rules

pub loop-k-init : goal.loop-k-init
loop-k-init c =
    shape_on _ _ _ _ (shape_start _ _) (omega (arith, lines_are _ _ c.table-table.ensures.value)) _
    (c.pass_line.ensures _ (λ l b f. search (rules, head_first c.args.fields.now l))) _ c.in_ok-at.was

pub returns-in_err-at-2 : goal.returns-in_err-at-2
returns-in_err-at-2 c =
    let h = shape_off c.args.fields.now c.args.text.now _ _ c.loop-k.invariant (omega (arith, lines_are _ _ c.table-table.ensures.value, c.loop-k-test.true)) _
    (c.pass_line-in-loop-k.ensures _ (λ l b f. search (rules, head_named _ _ c.table-table.ensures.value c.loop-k.k past l c.loop-k-test.true))) _ c.in_err-at-2.was in
    search rules

pub loop-k-preserved : goal.loop-k-preserved
loop-k-preserved c =
    shape_on c.args.fields.now c.args.text.now _ _ c.loop-k.invariant (omega (arith, lines_are _ _ c.table-table.ensures.value, c.loop-k-test.true)) _
    (c.pass_line-in-loop-k.ensures _ (λ l b f. search (rules, head_named _ _ c.table-table.ensures.value c.loop-k.k past l c.loop-k-test.true))) _ c.in_ok-at-2.was

pub returns : goal.returns
returns c =
    let many = lines_are _ _ c.table-table.ensures.value in
    let last : length c.table-table.result.now ≡ length c.args.fields.now = omega (arith, fields_many _ _ c.table-table.ensures.value) in
    let all : c.loop-k.k ≡ length c.table-table.result.now = omega (arith, c.loop-k-test.false, c.loop-k.auto.k-end) in
    shape_end c.args.fields.now c.args.text.now _ _ (rw all at c.loop-k.invariant) (omega (arith, many)) _
    (c.pass_line-2.ensures _ (λ l b f. search (rules, head_tag c.args.fields.now l))) (omega (arith, many))
