-- Each column is written where those before it end.
use mathlib.Core.Path.{ap, ◌∙◌}
use mathlib.Core.List.{List}
use Prim.Native.Nat.{◌+◌}
use Rattle.text_rules.specs.declared.Column.{Column}
use Rattle.text_rules.specs.Columns.{taken_before}
use Rattle.text_rules.proofs.Placed.{numbers_of}
use Rattle.text_rows_writing.proofs.Turns.{at_column, holds_here, words_ask, words_turn, numbers_ask, numbers_turn}
use Rattle.text_rows_writing.proofs.put_columns.Goals.{then-is_text, else-is_text}
use Rattle.text_rows_writing.proofs.put_columns.Goals as goal

pub put_words_column-requires : goal.put_words_column-requires
put_words_column-requires g c =
    let p = c.requires in
    let v = c.loop-k.invariant in
    let here = at_column c.args.form.now c.table-column-items.ensures.value c.columns-columns.ensures.value c.loop-k-test.true v.0 in
    words_ask p.0 p.1.0 here v.1 (holds_here here c.is_text.ensures c.if-is_text.true)

pub put_numbers_column-requires : goal.put_numbers_column-requires
put_numbers_column-requires g c =
    let p = c.requires in
    let v = c.loop-k.invariant in
    let here = at_column c.args.form.now c.table-column-items.ensures.value c.columns-columns.ensures.value c.loop-k-test.true v.0 in
    let flag = numbers_of _ _ c.before_flag-flag_place.ensures.value in
    numbers_ask p.0 p.1.0 here v.1 (holds_here here c.is_text.ensures c.if-is_text.false) c.flags-flags.ensures flag

pub loop-k-preserved : goal.loop-k-preserved
loop-k-preserved g c =
    let p = c.requires in
    let v = c.loop-k.invariant in
    let here = at_column c.args.form.now c.table-column-items.ensures.value c.columns-columns.ensures.value c.loop-k-test.true v.0 in
    let flag = numbers_of _ _ c.before_flag-flag_place.ensures.value in (
      c.past-taken.ensures ∙ ap (λ (cs : List Column). taken_before cs (c.loop-k.k + 1)) c.columns-columns.ensures.value,
      elim c.if-is_text.branch [
        | then-is_text w ↦ words_turn p.0 p.1.0 here v.1 (holds_here here c.is_text.ensures w.if-is_text.true) (w.rows-is ∙ w.put_words_column.ensures)
        | else-is_text w ↦
            numbers_turn p.0 p.1.0 here v.1 (holds_here here c.is_text.ensures w.if-is_text.false) c.flags-flags.ensures flag
            (w.rows-is ∙ w.put_numbers_column.ensures)
      ],
    )
