-- `list_shape::body_shape` meets its contract: each return is a law of what stands behind the head.
use mathlib.Core.Path.{sym, ◌∙◌}
use native.Mathlib.Omega.{arith}
use Rattle.list_shape.proofs.Shaped.{body, shaped_end, shaped_behind, shaped_rows}
use Rattle.list_shape.proofs.body_shape.Goals as goal

pub returns-then-not-end_stands : goal.returns-then-not-end_stands
returns-then-not-end_stands c =
    let p = c.requires in
    let v = body p.head_stands c.columns-columns.ensures p.start_value.0 c.row_count-count.ensures.value c.pitch.ensures in
    shaped_end v (sym c.end_stands.ensures ∙ c.if-not-end_stands.true)

pub returns-then-behind-text : goal.returns-then-behind-text
returns-then-behind-text c =
    let p = c.requires in
    let v = body p.head_stands c.columns-columns.ensures p.start_value.0 c.row_count-count.ensures.value c.pitch.ensures in
    shaped_behind v (sym c.end_stands.ensures ∙ c.if-not-end_stands.false) c.if-behind-text.true

pub returns : goal.returns
returns c =
    let p = c.requires in
    let v = body p.head_stands c.columns-columns.ensures p.start_value.0 c.row_count-count.ensures.value c.pitch.ensures in
    shaped_rows v (sym c.end_stands.ensures ∙ c.if-not-end_stands.false) c.row_count-count.ensures.columns_in_bounds (omega arith)
