-- `text_head::head_fields` meets its contract: each line is named, so what stands behind its name is the word of its field.
use Rattle.text_head.proofs.Fields.{head_stands, fielded_start, fielded_on}
use Rattle.text_head.proofs.head_fields.Goals as goal

pub loop-k-init : goal.loop-k-init
loop-k-init c =
    let head = head_stands _ _ _ c.table-table.ensures.value c.table-table.ensures.well c.requires in
    let line = rw c.unwrap.ensures at c.first_line.ensures.line in
    record { head = head; read = rw c.from-figures.ensures (fielded_start head line.1 (rw c.unwrap.ensures at c.first_line.ensures.room)) }

pub loop-k-preserved : goal.loop-k-preserved
loop-k-preserved c =
    let v = c.loop-k.invariant in
    let line = rw c.unwrap-line.ensures at c.first_line-in-loop-k.ensures.line in
    let room = rw c.unwrap-line.ensures at c.first_line-in-loop-k.ensures.room in
    record { head = v.head; read = fielded_on v.head v.read c.loop-k-test.true line.1 c.read_field.ensures c.in-Some.is room }
