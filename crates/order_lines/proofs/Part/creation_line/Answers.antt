-- `order_lines::Part::creation_line` meets its contract: cash stands for what is missing, or the stock is short or there in full.
use mathlib.Core.Path.{refl, sym, ◌∙◌}
use Rattle.order_lines.proofs.Laws.{missing_line, short_line, full_line}
use Rattle.order_lines.proofs.Part.creation_line.Goals.{else-have-need-via-then-have-need+else-entry, else-have-need-via-else-have-need}
use Rattle.order_lines.proofs.Part.creation_line.Goals as goal

pub returns-then-entry : goal.returns-then-entry
returns-then-entry c =
    let p = c.args.self.now.component in
    rw (c.in_market.ensures, c.min-moved.ensures, c.need-need.ensures)
    (missing_line _ p c.args.have _ c.requires.0 _ _ _ (rw c.need-need.ensures at c.if-have-need.true) (sym c.entry.ensures ∙ c.if-entry.true)
    refl (rw c.need-need.ensures at c.with_premium-cash.ensures))

pub returns : goal.returns
returns c =
    rw (c.min-moved.ensures, c.need-need.ensures)
    (elim c.else-have-need.branch [
      | else-have-need-via-then-have-need+else-entry w ↦
          short_line _ _ _ _ c.requires.0 _ (rw c.need-need.ensures at w.if-have-need.true) (sym w.entry.ensures ∙ w.if-entry.false)
      | else-have-need-via-else-have-need w ↦ full_line _ _ _ _ c.requires.0 _ (rw c.need-need.ensures at w.if-have-need.false)
    ])
